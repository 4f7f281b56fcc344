-- What is below a list is below the shortest point that the list begins;  and when nothing is.
use Rattle.std.proofs.Common.{◌≡◌, ℕ, Bool, true, false, cond, T, List, [], ◌∷◌, Option, Some, None, is_some, nat_cmp, append-nil, refl, sym, ap, subst, ◌∙◌, inl, inr}
use Rattle.std.proofs.lemmas.Cmp.{nat_list_cmp_total}
use Rattle.std.specs.Cmp.Lexicographic.{slice_cmp}
use Rattle.std.specs.FinMap as map
use Rattle.nibble_map.specs.Lists.{IsPrefix, is_prefix}
use Rattle.nibble_map.specs.MapQueries.{IsLeaf, IsRawDescendant}
use Rattle.nibble_map.specs.Maps.{NibbleMap, IsStored, IsPoint, below}
use Rattle.nibble_map.proofs.MapLemmas.Below.{get-below, get-retained_lists}
use Rattle.nibble_map.proofs.ListLemmas.Parted.{prefix_by_test, is_prefix_true, prefix_itself, prefix_through, shortest_leads}
use Rattle.nibble_map.proofs.ListLemmas.Sorted.{tied_lists_equal}

-- two tests that agree where something is held
cond-agreed : {P : Type 0} (b c : Bool) (o : Option P) → ((x : P) → o ≡ Some x → b ≡ true → c ≡ true) → (c ≡ true → b ≡ true) → cond b o None ≡ cond c o None
cond-agreed true true o f g = refl
cond-agreed true false None f g = refl
cond-agreed true false (Some x) f g = absurd (let i : false ≡ true = f x refl refl in cc i)
cond-agreed false true o f g = absurd (let i : false ≡ true = g refl in cc i)
cond-agreed false false o f g = refl

-- a test that fails where something is held
cond-failed : {P : Type 0} (b : Bool) (o : Option P) → ((x : P) → o ≡ Some x → b ≡ true → ⊥) → cond b o None ≡ None
cond-failed true None f = refl
cond-failed true (Some x) f = absurd (f x refl refl)
cond-failed false o f = refl

module _ {P : Type 0} (m : NibbleMap P) (e : List ℕ) where
  -- a list where the map holds something is a point
  stored_point : (x : List ℕ) (p : P) → map.get m x ≡ Some p → IsPoint m x
  stored_point x p is = inr (inl (subst T (sym (ap is_some is)) tt))

  -- what is below e is what is below the raw descendant of e
  pub below-descendant : (q : List ℕ) → IsRawDescendant m e (Some q) → below m e ≡ below m q
  below-descendant q l = map.same_map nat_list_cmp_total tied_lists_equal _ _ (λ x. get-retained_lists m (is_prefix e) x
      ∙ cond-agreed (is_prefix e x) (is_prefix q x) (map.get m x)
      (λ p is h. is_prefix_true q x (shortest_leads (IsStored m) e q x l (stored_point x p is) (prefix_by_test e x h)))
      (λ h. is_prefix_true e x (prefix_through e q x l.below (prefix_by_test q x h)))
      ∙ sym (get-retained_lists m (is_prefix q) x))

  -- nothing is below e where e has no raw descendant
  pub below-no_descendant : IsRawDescendant m e None → below m e ≡ map.empty
  below-no_descendant none = map.same_map nat_list_cmp_total tied_lists_equal _ _ (λ x. get-retained_lists m (is_prefix e) x
      ∙ cond-failed (is_prefix e x) (map.get m x) (λ p is h. none x (stored_point x p is) (prefix_by_test e x h)) ∙ sym (map.get-empty (slice_cmp nat_cmp) x))

  -- nothing is at or below e where nothing is held at e and e is a leaf, and else something is
  some_below : map.get m e ≡ None → IsLeaf m e → (x : List ℕ) (p : P) → map.get m x ≡ Some p → IsPrefix e x → ⊥
  some_below none leaf x p is ([], at) = let i : None ≡ Some p = sym none ∙ ap (map.get m) (sym (at ∙ append-nil e)) ∙ is in cc i
  some_below none leaf x p is (a ∷ rest, at) = leaf x (subst T (sym (ap is_some is)) tt) (a, rest, at)

  -- where nothing is held at e and e is a leaf, the part below e has no entries
  pub len-below_leaf : map.get m e ≡ None → IsLeaf m e → map.len (below m e) ≡ 0
  len-below_leaf none leaf = ap map.len (map.same_map nat_list_cmp_total tied_lists_equal _ _ (λ x. get-retained_lists m (is_prefix e) x
      ∙ cond-failed (is_prefix e x) (map.get m x) (λ p is h. some_below none leaf x p is (prefix_by_test e x h)) ∙ sym (map.get-empty (slice_cmp nat_cmp) x)))
      ∙ map.len-empty (slice_cmp nat_cmp) P

  -- where the part below e has no entries, nothing is held at a list with the prefix e
  nothing_with_prefix : map.len (below m e) ≡ 0 → (x : List ℕ) → is_prefix e x ≡ true → map.get m x ≡ None
  nothing_with_prefix none x h = sym (get-below m e x (subst T (sym h) tt)) ∙ ap (λ n. map.get n x) (map.empty_of_len _ none) ∙ map.get-empty (slice_cmp nat_cmp) x

  -- where the part below e has no entries, nothing is held at e
  pub get-nothing_below : map.len (below m e) ≡ 0 → map.get m e ≡ None
  get-nothing_below none = nothing_with_prefix none e (is_prefix_true e e (prefix_itself e))

  -- where the part below e has no entries, e is a leaf
  pub nothing_below_leaf : map.len (below m e) ≡ 0 → IsLeaf m e
  nothing_below_leaf none x stored s = subst (λ o. T (is_some o)) (nothing_with_prefix none x (is_prefix_true e x (s.0 ∷ s.1, s.2))) stored
