use Rattle.std.proofs.Common.{arith}
use Rattle.radix_trie.proofs.JsonLemmas.Objects.{put_all_is}
use Rattle.radix_trie.proofs.json.to_value.Goals as goal

pub loop-key-init : goal.loop-key-init
loop-key-init c = grind (arith, put_all_is)
