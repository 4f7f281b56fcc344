use Rattle.std.proofs.Common.{arith}
use Rattle.radix_trie.proofs.ChangeLemmas.Joined.{pairs_put_back}
use Rattle.radix_trie.proofs.ChangeLemmas.Overlaps.{part_goes_back}
use Rattle.radix_trie.proofs.key_laws.split_part_goes_back.Goals as goal

pub returns-clause-same : goal.returns-clause-same
returns-clause-same g c e = pairs_put_back g.K.TrieKey.encoding c.args.trie.now e c.root.ensures.keyed

pub returns-clause-why : goal.returns-clause-why
returns-clause-why g c e why = part_goes_back c.args.trie.now e why (omega (arith, c.len-count.ensures))
