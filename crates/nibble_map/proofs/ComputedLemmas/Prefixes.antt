-- The slow list of prefixes holds what the relation says.
use Rattle.nibble_map.specs.Points.{IsSomePrefix}
use Rattle.std.proofs.Common.{◌≡◌, ℕ, ◌≢◌, ◌⊎◌, ◌↔◌, List, [], ◌∷◌, ◌++◌, flat_map, Some, Bool, cond, true, false, refl, ap, sym, subst, ◌∙◌, inl, inr, T, is_some, is_eq, nat_cmp, Ordering, map}
use Rattle.std.specs.Bool.{⊤}
use Rattle.std.specs.Cmp.{tied_itself}
use Rattle.std.specs.Cmp.Lexicographic.{slice_cmp}
use Rattle.std.specs.FinMap.{find, is_sorted}
use Rattle.std.specs.FinMap.Entries.{is_some-find, is_sorted-put, find-put}
use Rattle.std.proofs.lemmas.Cmp.{nat_list_cmp_total}
use Rattle.nibble_map.specs.Lists.{IsPrefix, Has, Lists}
use Rattle.nibble_map.specs.Stored.{stored, IsStored}
use Rattle.nibble_map.specs.Computed.{same, gathered, fronts, prefixes}
use Rattle.nibble_map.proofs.MapLemmas.Bridge.{equal_by_test}
use Rattle.nibble_map.proofs.ListLemmas.Cut.{cons_head, cons_tail, cons_not_empty}
use Rattle.nibble_map.proofs.ListLemmas.Members.{Has-left, Has-right, Has-cases, map_has, has_map}
use Rattle.nibble_map.proofs.ListLemmas.Sorted.{tied_lists_equal as one, has_any, any_has, rising_of_sorted}

-- the order of lists
abbrev R : List ℕ → List ℕ → Ordering
R = slice_cmp nat_cmp

-- lists for which the test `same` passes are equal
pub equal_by_same : (p q : List ℕ) → same p q ≡ true → p ≡ q
equal_by_same p q h = one p q (equal_by_test _ (subst T (sym h) tt))

-- the test `same` passes for a list and itself
pub same_itself : (p : List ℕ) → same p p ≡ true
same_itself p = ap is_eq (tied_itself nat_list_cmp_total p)

-- gathered lists
-- a list is among those of the entries exactly where it is found
stored_by_find : (x : List ℕ) (es : List (List ℕ × ⊤)) → Has (stored es) x ↔ T (is_some (find R x es))
stored_by_find x es = ((λ h. subst T (sym (is_some-find R x es)) (any_has x (stored es) h)), (λ t. has_any x (stored es) (subst T (is_some-find R x es) t)))

-- gathered lists are sorted
gathered_sorted : (ps : List (List ℕ)) → T (is_sorted R (gathered ps))
gathered_sorted [] = tt
gathered_sorted (p ∷ ps) = is_sorted-put R nat_list_cmp_total p tt (gathered ps) (gathered_sorted ps)

-- a list among the gathered ones is among those that were gathered
gathered_has : (ps : List (List ℕ)) (x : List ℕ) → Has (stored (gathered ps)) x → Has ps x
gathered_has [] x h = absurd h
gathered_has (p ∷ ps) x h =
    by (same x p) refl (subst (λ o. T (is_some o)) (find-put R nat_list_cmp_total x p tt (gathered ps)) ((stored_by_find x (gathered (p ∷ ps))).0 h)) (gathered_has ps x)
  where
    by : (b : Bool) → same x p ≡ b → T (is_some (cond b (Some tt) (find R x (gathered ps)))) → (Has (stored (gathered ps)) x → Has ps x) → Has (p ∷ ps) x
    by true e t later = inl (equal_by_same x p e)
    by false e t later = inr (later ((stored_by_find x (gathered ps)).1 t))

-- a list that was gathered is among the gathered ones
has_gathered : (ps : List (List ℕ)) (x : List ℕ) → Has ps x → Has (stored (gathered ps)) x
has_gathered [] x h = absurd h
has_gathered (p ∷ ps) x h =
    (stored_by_find x (gathered (p ∷ ps))).1 (subst (λ o. T (is_some o)) (sym (find-put R nat_list_cmp_total x p tt (gathered ps))) (by (same x p) refl h (has_gathered ps x)))
  where
    by : (b : Bool) → same x p ≡ b → (x ≡ p) ⊎ Has ps x → (Has ps x → Has (stored (gathered ps)) x) → T (is_some (cond b (Some tt) (find R x (gathered ps))))
    by true e k later = tt
    by false e (inl i) later = absurd (let j : false ≡ true = sym e ∙ subst (λ l. same x l ≡ true) i (same_itself x) in cc j)
    by false e (inr k) later = (stored_by_find x (gathered ps)).0 (later k)

-- a list of `fronts p` is a non-empty prefix of p
fronts_has : (p x : List ℕ) → Has (fronts p) x → (x ≢ []) × IsPrefix x p
fronts_has [] x h = absurd h
fronts_has (a ∷ p) x (inl e) = (λ i. cons_not_empty [] a [] (sym e ∙ i), (p, ap (λ l. l ++ p) (sym e)))
fronts_has (a ∷ p) x (inr h) =
    let r = map_has (λ q. a ∷ q) (fronts p) x h in
    let k = fronts_has p r.0 r.2 in
    (λ i. cons_not_empty [] a r.0 (sym r.1 ∙ i), (k.1.0, ap (λ l. a ∷ l) k.1.1 ∙ ap (λ l. l ++ k.1.0) (sym r.1)))

-- a non-empty prefix of p is a list of `fronts p`
has_fronts : (p x : List ℕ) → x ≢ [] → IsPrefix x p → Has (fronts p) x
has_fronts p [] n r = absurd (n refl)
has_fronts [] (b ∷ x) n (r, e) = absurd (cons_not_empty [] b (x ++ r) (sym e))
has_fronts (a ∷ p) (b ∷ []) n (r, e) = inl (ap (λ c. c ∷ []) (sym (cons_head e)))
has_fronts (a ∷ p) (b ∷ (c ∷ x)) n (r, e) =
    inr (subst (λ d. Has (map (λ q. a ∷ q) (fronts p)) (d ∷ (c ∷ x))) (cons_head e) (has_map (λ q. a ∷ q) (fronts p) (c ∷ x) (has_fronts p (c ∷ x) (cons_not_empty [] c x) (r, cons_tail e))))

-- a list among the fronts of all lists of es is a non-empty prefix of one of them
spread_has : (es : List (List ℕ)) (x : List ℕ) → Has (flat_map fronts es) x → (e : List ℕ) × Has es e × (x ≢ []) × IsPrefix x e
spread_has [] x h = absurd h
spread_has (e ∷ es) x h = elim (Has-cases (fronts e) (flat_map fronts es) x h) [
  | inl k ↦ let r = fronts_has e x k in (e, inl refl, r.0, r.1)
  | inr k ↦ let r = spread_has es x k in (r.0, inr r.1, r.2, r.3)
]

-- a non-empty prefix of a list of es is among the fronts of all of them
has_spread : (es : List (List ℕ)) (x e : List ℕ) → Has es e → x ≢ [] → IsPrefix x e → Has (flat_map fronts es) x
has_spread [] x e h n p = absurd h
has_spread (d ∷ es) x e (inl i) n p = Has-left (fronts d) _ x (has_fronts d x n (subst (IsPrefix x) i p))
has_spread (d ∷ es) x e (inr h) n p = Has-right (fronts d) _ x (has_spread es x e h n p)

-- the computed prefixes are the non-empty prefixes of stored lists, in rising order
pub prefixes_list : {P : Type 0} (m : List (List ℕ × P)) → Lists (IsSomePrefix (IsStored m)) (prefixes m)
prefixes_list m = record { rising = rising_of_sorted _ (gathered_sorted (flat_map fronts (stored m))); exactly = λ p. (to p, from p) }
  where
    to : (p : List ℕ) → Has (prefixes m) p → IsSomePrefix (IsStored m) p
    to p h = let r = spread_has (stored m) p (gathered_has (flat_map fronts (stored m)) p h) in (r.2, (r.0, r.1, r.3))

    from : (p : List ℕ) → IsSomePrefix (IsStored m) p → Has (prefixes m) p
    from p (n, (e, i, q)) = has_gathered (flat_map fronts (stored m)) p (has_spread (stored m) p e i n q)
