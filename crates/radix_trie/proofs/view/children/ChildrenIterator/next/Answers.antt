use Rattle.std.proofs.Common.{subst}
use Rattle.std.specs.Iterator.{YieldsFirst}
use Rattle.radix_trie.specs.Present.{present}
use Rattle.radix_trie.proofs.PathLemmas.Present.{length-present_rest, first_removed}
use Rattle.radix_trie.proofs.view.children.ChildrenIterator.next.Goals as goal

pub invariant_of-self-2 : goal.invariant_of-self-2
invariant_of-self-2 g c = length-present_rest _ _ _ c.in_ok-pop_at.ensures.value c.in_ok-pop_at.ensures.items c.self.invariant

pub returns-clause-steps : goal.returns-clause-steps
returns-clause-steps g c =
    subst (λ s. YieldsFirst (λ s. s) s c.in_ok-pop_at.field-0 (present c.pop_at.new.self.items)) c.self.view_is
    (first_removed _ _ _ c.in_ok-pop_at.ensures.value c.in_ok-pop_at.ensures.items c.self.invariant)
