use Rattle.std.proofs.Common.{[], length, sym, ap, ◌∙◌, arith}
use Rattle.std.proofs.lemmas.List.{length-append}
use Rattle.radix_trie.specs.Views.{pairs_below}
use Rattle.radix_trie.specs.Walks.{deref_pair}
use Rattle.frozen_trie.proofs.TextLemmas.Parts.{part_last}
use Rattle.frozen_trie.proofs.texts.walk.TextsDoubleEndedIterator.next_back.Goals as goal

pub returns-clause-steps : goal.returns-clause-steps
returns-clause-steps g c =
    let walk = c.self.inside in
    sym c.self.view_is
    ∙ part_last (pairs_below walk.texts.now []) walk.from walk.to (deref_pair c.pair_at.result) (omega (arith, c.self.invariant.0, c.if-self.false)) c.pair_at.ensures.pair

pub returns-clause-goes : goal.returns-clause-goes
returns-clause-goes g c =
    let walk = c.self.inside in
    let last = part_last (pairs_below walk.texts.now []) walk.from walk.to (deref_pair c.pair_at.result) (omega (arith, c.self.invariant.0, c.if-self.false)) c.pair_at.ensures.pair in
    record { on = λ _. (tt, tt, omega (arith, simp length-append at (ap length (sym c.self.view_is ∙ last)))); keeps = tt; rests = λ _. tt }
