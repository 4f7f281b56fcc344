use Rattle.std.proofs.Common.{[], length, sym, ap, ◌∙◌, arith}
use Rattle.radix_trie.specs.Views.{pairs_below}
use Rattle.frozen_trie.proofs.FrozenLemmas.Whole.{count_whole}
use Rattle.frozen_trie.proofs.TextLemmas.Parts.{part_length}
use Rattle.frozen_trie.proofs.texts.walk.TextsExactSizeIterator.len.Goals as goal

pub returns-clause-value : goal.returns-clause-value
returns-clause-value g c =
    let walk = c.self.inside in
    sym (part_length (pairs_below walk.texts.now []) walk.from walk.to c.self.invariant.0 (omega (arith, c.self.invariant.1, count_whole walk.texts.now)))
    ∙ ap length c.self.view_is
