use Rattle.std.proofs.Common.{[], length, sym, ap, ◌∙◌, arith}
use Rattle.radix_trie.specs.Views.{pairs_below}
use Rattle.radix_trie.specs.Walks.{deref_pair}
use Rattle.frozen_trie.proofs.TextLemmas.Parts.{part_first}
use Rattle.frozen_trie.proofs.texts.walk.TextsIterator.next.Goals as goal

pub returns-clause-steps : goal.returns-clause-steps
returns-clause-steps g c =
    let walk = c.self.inside in
    sym c.self.view_is
    ∙ part_first (pairs_below walk.texts.now []) walk.from walk.to (deref_pair c.pair_at-pair.result) (omega (arith, c.self.invariant.0, c.if-self.false)) c.pair_at-pair.ensures.pair

pub returns-clause-goes : goal.returns-clause-goes
returns-clause-goes g c =
    let walk = c.self.inside in
    let first = part_first (pairs_below walk.texts.now []) walk.from walk.to (deref_pair c.pair_at-pair.result) (omega (arith, c.self.invariant.0, c.if-self.false)) c.pair_at-pair.ensures.pair in
    record { on = λ _. (tt, tt, omega (arith, ap length (sym c.self.view_is ∙ first))); keeps = tt; rests = λ _. tt }
