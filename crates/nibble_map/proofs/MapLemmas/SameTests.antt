-- The test of two maps.
use Rattle.std.proofs.Common.{◌≡◌, ℕ, Bool, true, false, ◌&&◌, List, [], ◌∷◌, refl, sym}
use Rattle.std.specs.Prelude.{IsTrue, ◌↔◌}
use Rattle.std.specs.Cmp.{IsPartialEquivalence, on_per, and_per, partial_equiv_from_equiv}
use Rattle.std.specs.Cmp.Lexicographic.{bytes_decides, lists_per, nat_list_eq_equiv}
use Rattle.std.specs.FinMap as fin
use Rattle.std.proofs.lemmas.Bool.{and_from}
use Rattle.nibble_map.specs.Copies.{same_rows, same_maps}
use Rattle.nibble_map.specs.MapQueries.{IsSame, AreSame}
use Rattle.nibble_map.specs.Maps.{PairMap}
use Rattle.nibble_map.proofs.MapLemmas.Same.{same_by_entries}

-- both tests hold
-- where `x && y` is true, both are true
pub both_true : (x y : Bool) → (x && y) ≡ true → (x ≡ true) × (y ≡ true)
both_true true y e = (refl, e)
both_true false y e = absurd (let i : false ≡ true = e in cc)

-- where false is true anything follows
pub anything_of_false : {A : Type 0} → false ≡ true → A
anything_of_false e = absurd (let i : false ≡ true = e in cc)

-- two tests that pass together
-- two tests are equal where each passes if the other does
pub equal_tests : (a b : Bool) → (a ≡ true → b ≡ true) → (b ≡ true → a ≡ true) → a ≡ b
equal_tests true b f g = sym (f refl)
equal_tests false true f g = g refl
equal_tests false false f g = refl

module _ {K V : Type 0} (eq : V → V → Bool) where
  -- where the test `same_rows` passes, the rows are the same entry by entry
  pub rows_are_same : (es ds : List (List ℕ × (K × V))) → same_rows eq es ds ≡ true → AreSame eq es ds
  rows_are_same [] [] h = tt
  rows_are_same [] (d ∷ ds) h = anything_of_false h
  rows_are_same (e ∷ es) [] h = anything_of_false h
  rows_are_same (e ∷ es) (d ∷ ds) h =
      let a = both_true _ _ h in
      let b = both_true _ _ a.0 in
      ((bytes_decides e.0 d.0).0 b.0, b.1, rows_are_same es ds a.1)

  -- the test `same_rows` passes where the rows are the same entry by entry
  pub same_rows-true : (es ds : List (List ℕ × (K × V))) → AreSame eq es ds → same_rows eq es ds ≡ true
  same_rows-true [] [] h = refl
  same_rows-true [] (d ∷ ds) h = absurd h
  same_rows-true (e ∷ es) [] h = absurd h
  same_rows-true (e ∷ es) (d ∷ ds) h = and_from _ _ (and_from _ _ ((bytes_decides e.0 d.0).1 h.0) h.1) (same_rows-true es ds h.2)

  -- the test `same_maps` passes exactly where the maps are the same
  pub maps_tell : (m n : PairMap K V) → IsTrue (same_maps eq m n) ↔ IsSame eq m n
  maps_tell m n = ((λ h. (same_by_entries eq m n).1 (rows_are_same _ _ h)), (λ s. same_rows-true (fin.entries m) (fin.entries n) ((same_by_entries eq m n).0 s)))

  -- the test `same_maps` is symmetric and transitive where the equality of values is
  pub maps_per : IsPartialEquivalence eq → IsPartialEquivalence (same_maps {K = K} eq)
  maps_per h = on_per (λ (m : PairMap K V). fin.entries m) (lists_per (and_per (on_per (λ e. e.0) (partial_equiv_from_equiv nat_list_eq_equiv)) (on_per (λ e. e.1.1) h)))
