-- Pages of a list, one after another.
use Rattle.std.proofs.Common.{◌≡◌, ◌+◌, ◌-◌, ℕ, zero, suc, List, [], ◌∷◌, ◌++◌, length, take, drop, map, Some, None, option_map, T, is_some, refl, sym, ap, ◌∙◌, subst, arith}
use Rattle.std.proofs.lemmas.List.{length-map}
use Rattle.std.proofs.lemmas.Option.{slice_get-get_or, slice_get-map, slice_get_within}
use Rattle.std.specs.List.{slice_get}

module _ {P : Type 0} where
  take_of_none : (n : ℕ) (none : List P) → none ≡ [] → take n none ≡ []
  take_of_none zero none is = refl
  take_of_none (suc n) none is = ap (take (suc n)) is

  -- the first items of a list and the first of those behind them are the first of all
  first_of_both : (m j k : ℕ) (all after : List P) → k ≡ m + j → take (length (take m all)) all ++ after ≡ all → take m all ++ take j after ≡ take k all
  first_of_both zero j k all after sum is = (let same : j ≡ k = omega (arith, sum) in ap (λ n. take n after) same ∙ ap (take k) is)
  first_of_both (suc m) j zero all after sum is = absurd (omega (arith, sum))
  first_of_both (suc m) j (suc k) [] after sum is = take_of_none j after is
  first_of_both (suc m) j (suc k) (x ∷ xs) after sum is = ap (λ l. x ∷ l) (first_of_both m j k xs after (omega (arith, sum)) (ap (drop 1) is))

  -- an item of the first items stands at the same place in the list
  slice_get-take : (n i : ℕ) (all : List P) (x : P) → slice_get (take n all) i ≡ Some x → slice_get all i ≡ Some x
  slice_get-take zero i all x is = cc
  slice_get-take (suc n) i [] x is = cc
  slice_get-take (suc n) zero (y ∷ ys) x is = is
  slice_get-take (suc n) (suc i) (y ∷ ys) x is = slice_get-take n i ys x is

  -- a page, and the one that begins after its last item, are the first items of the list
  pub page_after : (most : ℕ) (all page after : List P) (p : P) → page ≡ take most all → slice_get page (length page - 1) ≡ Some p
      → ((n : ℕ) → slice_get all n ≡ Some p → take (n + 1) all ++ after ≡ all) → page ++ take most after ≡ take (most + most) all
  page_after most all page after p is last follows =
      let within = slice_get_within page (length page - 1) p last in
      let at = slice_get-take most (length page - 1) all p (subst (λ l. slice_get l (length page - 1) ≡ Some p) is last) in
      let count : length page - 1 + 1 ≡ length (take most all) = omega (arith, within, ap length is) in
      ap (λ l. l ++ take most after) is ∙ first_of_both most most (most + most) all after refl (subst (λ n. take n all ++ after ≡ all) count (follows (length page - 1) at))

  -- where a page has no item, neither have two
  pub page_after_none : (most : ℕ) (all page : List P) → page ≡ take most all → page ≡ [] → page ++ [] ≡ take (most + most) all
  page_after_none most all page is none =
      let first = first_of_both most most (most + most) all all refl (ap (λ l. take (length l) all ++ all) (sym is ∙ none)) in
      ap (λ l. l ++ []) none ∙ ap (λ l. l ++ l) (sym none ∙ is) ∙ first

module _ {A B : Type 0} (f : A → B) where
  -- the last item, and the last of what is made of each
  pub last_mapped : (xs ys : List A) (x : A) → ys ≡ xs → Some x ≡ slice_get ys (length ys - 1) → slice_get (map f xs) (length (map f xs) - 1) ≡ Some (f x)
  last_mapped xs ys x same last =
      ap (λ n. slice_get (map f xs) (n - 1)) (length-map xs f)
      ∙ slice_get-map f xs (length xs - 1)
      ∙ ap (option_map f) (sym (last ∙ ap (λ l. slice_get l (length l - 1)) same))

  -- where there is no last item, there is none
  pub none_mapped : (xs ys : List A) → ys ≡ xs → None ≡ slice_get ys (length ys - 1) → map f xs ≡ []
  none_mapped [] ys same last = refl
  none_mapped (x ∷ xs) ys same last =
      let at = slice_get-get_or (x ∷ xs) (length (x ∷ xs) - 1) x (omega arith) in
      absurd (subst (λ o. T (is_some o)) (sym (last ∙ ap (λ l. slice_get l (length l - 1)) same ∙ at)) tt)
