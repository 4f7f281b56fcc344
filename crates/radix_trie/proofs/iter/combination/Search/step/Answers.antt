use Rattle.std.proofs.Common.{rules, [], ◌∷◌, ◌++◌, drop, slice_get, ap, sym, subst, ◌∙◌, arith, refl}
use Rattle.nibble_map.proofs.ListLemmas.Cut.{empty_of_length}
use Rattle.radix_trie.specs.Combinations.{AreAllPlaced, all_left, turns}
use Rattle.radix_trie.specs.Walks.{first_pair}
use Rattle.radix_trie.proofs.CombinationLemmas.Searches.{ended, given_first, left-push, none_first, placed-pop, placed-push, turns-push, with_own}
use Rattle.radix_trie.proofs.iter.combination.Search.step.Goals as goal

pub invariant_of-self : goal.invariant_of-self
invariant_of-self g c =
    let s = c.loop-pair.self-inside in
    let p = placed-pop s.stack.items s.at c.loop-pair.invariant.placed in
    placed-push s.stack.items (with_own s.at c.take-first.new.self c.take-second.new.self) p.0 p.1

pub returns-in-Some-clause-pair : goal.returns-in-Some-clause-pair
returns-in-Some-clause-pair g c =
    let s = c.loop-pair.self-inside in
    let next = given_first s.operation s.stack.items s.at c.loop-pair.invariant.placed _ _ _ _ _ c.take-first.ensures.value c.take-second.ensures.value c.take-first.ensures.after c.take-second.ensures.after c.choice.ensures in
    sym (ap (λ l. slice_get l 0) (sym c.loop-pair.invariant.same ∙ next ∙ ap (λ o. first_pair o ++ all_left s.operation (s.stack.items ++ with_own s.at c.take-first.new.self c.take-second.new.self ∷ [])) c.in-Some.is))

pub returns-in-Some-clause-rest : goal.returns-in-Some-clause-rest
returns-in-Some-clause-rest g c =
    let s = c.loop-pair.self-inside in
    let next = given_first s.operation s.stack.items s.at c.loop-pair.invariant.placed _ _ _ _ _ c.take-first.ensures.value c.take-second.ensures.value c.take-first.ensures.after c.take-second.ensures.after c.choice.ensures in
    sym (ap (drop 1) (sym c.loop-pair.invariant.same ∙ next ∙ ap (λ o. first_pair o ++ all_left s.operation (s.stack.items ++ with_own s.at c.take-first.new.self c.take-second.new.self ∷ [])) c.in-Some.is))

pub part-requires-clause-placed : goal.part-requires-clause-placed
part-requires-clause-placed g c = (placed-pop c.loop-pair.self-inside.stack.items c.loop-pair.self-inside.at c.loop-pair.invariant.placed).1

pub descend-requires-clause-placed : goal.descend-requires-clause-placed
descend-requires-clause-placed g c = (placed-pop c.loop-pair.self-inside.stack.items c.loop-pair.self-inside.at c.loop-pair.invariant.placed).0

pub invariant_of-self-in_err-self-inside : goal.invariant_of-self-in_err-self-inside
invariant_of-self-in_err-self-inside g c =
    let s = c.loop-pair.self-inside in
    let p = placed-pop s.stack.items s.at c.loop-pair.invariant.placed in
    let at = with_own s.at c.take-first.new.self c.take-second.new.self in
    subst (λ bs. AreAllPlaced (bs ++ at ∷ [])) (sym c.in_err-self-inside.ensures.unchanged) (placed-push s.stack.items at p.0 p.1)

pub returns-in_err-self-inside-clause-unchanged : goal.returns-in_err-self-inside-clause-unchanged
returns-in_err-self-inside-clause-unchanged g c =
    let s = c.loop-pair.self-inside in
    let at = with_own s.at c.take-first.new.self c.take-second.new.self in
    let same = none_first s.operation s.stack.items s.at c.loop-pair.invariant.placed _ _ _ _ _ c.take-first.ensures.value c.take-second.ensures.value c.take-first.ensures.after c.take-second.ensures.after c.choice.ensures c.in_default.is in
    let unchanged = ap (λ bs. all_left s.operation (bs ++ at ∷ [])) c.in_err-self-inside.ensures.unchanged ∙ sym same ∙ c.loop-pair.invariant.same in
    search (rules, unchanged)

pub loop-pair-smaller-in-Some-part : goal.loop-pair-smaller-in-Some-part
loop-pair-smaller-in-Some-part g c =
    let s = c.loop-pair.self-inside in omega (arith, c.in_ok-self-inside.ensures.turns, turns-push s.stack.items s.at, c.in-Some-part.ensures.parted.fewer)

pub loop-pair-preserved-in-Some-part : goal.loop-pair-preserved-in-Some-part
loop-pair-preserved-in-Some-part g c =
    let s = c.loop-pair.self-inside in
    let at = with_own s.at c.take-first.new.self c.take-second.new.self in
    let same = none_first s.operation s.stack.items s.at c.loop-pair.invariant.placed _ _ _ _ _ c.take-first.ensures.value c.take-second.ensures.value c.take-first.ensures.after c.take-second.ensures.after c.choice.ensures c.in_default.is in
    record {
      same = c.in_ok-self-inside.ensures.pairs ∙ ap (λ ps. ps ++ all_left s.operation s.stack.items) (sym (c.in-Some-part.ensures.parted.pairs s.operation))
          ∙ sym (left-push s.operation s.stack.items at) ∙ sym same ∙ c.loop-pair.invariant.same;
      placed = c.in_ok-self-inside.ensures.placed;
    }

pub returns-in_default-pop-clause-pair : goal.returns-in_default-pop-clause-pair
returns-in_default-pop-clause-pair g c =
    let s = c.loop-pair.self-inside in
    let same = ended s.operation s.stack.items s.at c.loop-pair.invariant.placed _ _ _ _ _ c.take-first.ensures.value c.take-second.ensures.value c.take-first.ensures.after c.take-second.ensures.after c.choice.ensures c.in_default.is
    (c.in_default-part.ensures.none refl s.operation) in
    let none = empty_of_length s.stack.items (sym s.stack.ok.0 ∙ c.in_default-pop.ensures.cases.0) in
    sym (ap (λ l. slice_get l 0) (sym c.loop-pair.invariant.same ∙ same ∙ ap (all_left s.operation) none))

pub returns-in_default-pop-clause-rest : goal.returns-in_default-pop-clause-rest
returns-in_default-pop-clause-rest g c =
    let s = c.loop-pair.self-inside in
    let at = with_own s.at c.take-first.new.self c.take-second.new.self in
    let bare = c.in_default-part.ensures.none refl s.operation in
    let same = ended s.operation s.stack.items s.at c.loop-pair.invariant.placed _ _ _ _ _ c.take-first.ensures.value c.take-second.ensures.value c.take-first.ensures.after c.take-second.ensures.after c.choice.ensures c.in_default.is bare in
    let none = empty_of_length s.stack.items (sym s.stack.ok.0 ∙ c.in_default-pop.ensures.cases.0) in
    let left = empty_of_length c.pop.new.self.items (sym c.pop.new.self.ok.0 ∙ c.in_default-pop.ensures.cases.1) in
    ap (λ bs. all_left s.operation (bs ++ at ∷ [])) left ∙ bare ∙ sym (ap (drop 1) (sym c.loop-pair.invariant.same ∙ same ∙ ap (all_left s.operation) none))

pub loop-pair-smaller : goal.loop-pair-smaller
loop-pair-smaller g c =
    let s = c.loop-pair.self-inside in omega (arith, turns-push s.stack.items s.at, ap turns c.in-Some-pop.ensures.items)

pub loop-pair-preserved : goal.loop-pair-preserved
loop-pair-preserved g c =
    let s = c.loop-pair.self-inside in
    let same = ended s.operation s.stack.items s.at c.loop-pair.invariant.placed _ _ _ _ _ c.take-first.ensures.value c.take-second.ensures.value c.take-first.ensures.after c.take-second.ensures.after c.choice.ensures c.in_default.is
    (c.in_default-part.ensures.none refl s.operation) in
    let items = c.in-Some-pop.ensures.items in
    record {
      same = ap (all_left s.operation) (sym items) ∙ sym same ∙ c.loop-pair.invariant.same;
      placed = subst AreAllPlaced items (placed-pop s.stack.items s.at c.loop-pair.invariant.placed).0;
    }
