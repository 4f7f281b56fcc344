use Rattle.std.proofs.Common.{[], ◌∙◌, arith}
use Rattle.radix_trie.specs.Views.{pairs_below}
use Rattle.frozen_trie.proofs.FrozenLemmas.Whole.{count_whole}
use Rattle.frozen_trie.proofs.TextLemmas.Parts.{part_whole}
use Rattle.frozen_trie.proofs.texts.FrozenTexts.iter.Goals as goal

pub returns : goal.returns
returns g c = record {
  walk = c.new.ensures ∙ part_whole (pairs_below c.args.self.now []) c.len.result (omega (arith, c.len.ensures, count_whole c.args.self.now));
}
