-- What a filtered list holds, and that it rises.
use Rattle.std.proofs.Common.{◌≡◌, ℕ, List, [], ◌∷◌, filter, Bool, cond, ◌&&◌, true, false, refl, ap, sym, ◌∙◌, inl, inr}
use Rattle.std.proofs.lemmas.Bool.{cases_Bool}
use Rattle.nibble_map.specs.Lists.{IsBefore, Has, IsRising}
use Rattle.nibble_map.proofs.ListLemmas.Rising.{Each-from_has}
use Rattle.nibble_map.proofs.ListLemmas.Unique.{Each-has}

-- what passes one test and then another passes both
pub filter-filter : {A : Type 0} (s t : A → Bool) (xs : List A) → filter t (filter s xs) ≡ filter (λ x. s x && t x) xs
filter-filter s t [] = refl
filter-filter s t (x ∷ xs) = by (s x) (filter-filter s t xs)
  where
    by : (b : Bool) → filter t (filter s xs) ≡ filter (λ y. s y && t y) xs
        → filter t (cond b (x ∷ filter s xs) (filter s xs)) ≡ cond (b && t x) (x ∷ filter (λ y. s y && t y) xs) (filter (λ y. s y && t y) xs)
    by true rest = ap (λ ys. cond (t x) (x ∷ ys) ys) rest
    by false rest = rest

-- an element of a filtered list is an element of the list and passes the test
pub filter_has : (t : List ℕ → Bool) (xs : List (List ℕ)) (x : List ℕ) → Has (filter t xs) x → Has xs x × (t x ≡ true)
filter_has t [] x h = absurd h
filter_has t (y ∷ xs) x h = elim (cases_Bool (t y)) [
  | inr e ↦ let r = filter_has t xs x (rw e at h) in (inr r.0, r.1)
  | inl e ↦ elim (let i : Has (y ∷ filter t xs) x = rw e at h in i) [
    | inl i ↦ (inl i, ap t i ∙ e)
    | inr k ↦ let r = filter_has t xs x k in (inr r.0, r.1)
  ]
]

-- an element of the list that passes the test is an element of the filtered list
pub has_filter : (t : List ℕ → Bool) (xs : List (List ℕ)) (x : List ℕ) → Has xs x → t x ≡ true → Has (filter t xs) x
has_filter t [] x h e = absurd h
has_filter t (y ∷ xs) x (inl i) e = rw (ap t (sym i) ∙ e) (inl i)
has_filter t (y ∷ xs) x (inr h) e = kept (t y) (has_filter t xs x h e)
  where
    kept : (b : Bool) → Has (filter t xs) x → Has (cond b (y ∷ filter t xs) (filter t xs)) x
    kept true h = inr h
    kept false h = h

-- a filtered list of rising lists rises
pub filter_rises : (t : List ℕ → Bool) (xs : List (List ℕ)) → IsRising xs → IsRising (filter t xs)
filter_rises t [] h = tt
filter_rises t (x ∷ xs) h = kept (t x) (filter_rises t xs h.1)
  where
    kept : (b : Bool) → IsRising (filter t xs) → IsRising (cond b (x ∷ filter t xs) (filter t xs))
    kept true k = (Each-from_has (IsBefore x) (filter t xs) (λ y i. Each-has (IsBefore x) xs y h.0 (filter_has t xs y i).0), k)
    kept false k = k
