use Rattle.std.proofs.Common.{length, sym, ap, ◌∙◌}
use Rattle.nibble_map.specs.Nibbles.{nibbles}
use Rattle.radix_trie.proofs.PathLemmas.Below.{len-pairs_below}
use Rattle.frozen_trie.proofs.texts.FrozenTexts.count_below.Goals as goal

pub returns : goal.returns
returns g c = record { count = c.len.ensures.value ∙ ap length c.below.ensures.walk ∙ sym (len-pairs_below c.args.self.now (nibbles c.args.prefix.now)) }
