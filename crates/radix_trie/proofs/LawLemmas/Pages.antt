-- Where a page of a walk ends, the walk after its last key goes on; and what a page keeps of the walk.
use Rattle.std.proofs.Common.{◌≡◌, ℕ, zero, suc, T, cond, List, [], ◌∷◌, ◌++◌, filter, take, map as each, Some, nat_cmp, is_lt, refl, sym, ap, ◌∙◌, subst, All, arith}
use Rattle.std.proofs.lemmas.Cmp.{nat_list_cmp_total}
use Rattle.std.proofs.lemmas.List.{take-map}
use Rattle.std.proofs.lemmas.List.Elements.{All-take}
use Rattle.std.proofs.lemmas.List.Kept.{AllPairs-cons}
use Rattle.std.specs.List.{AllPairs}
use Rattle.std.specs.Cmp.{tied_itself}
use Rattle.std.specs.Cmp.Lexicographic.{slice_cmp}
use Rattle.std.specs.FinMap.{is_sorted}
use Rattle.std.specs.FinMap.Entries.{below_all}
use Rattle.std.specs.Prelude.{slice_get}
use Rattle.nibble_map.specs.Lists.{Each}
use Rattle.nibble_map.proofs.MapLemmas.Bridge.{first_of_both, greater_by_less, less_by_test, second_of_both}
use Rattle.nibble_map.proofs.MapLemmas.Edits.{not_None, same_Some}

module _ {K V : Type 0} (enc : K → List ℕ) where
  -- the entries that come after a list
  abbrev later : List ℕ → List (List ℕ × (K × V)) → List (List ℕ × (K × V))
  later q es = filter (λ e. is_lt (slice_cmp nat_cmp q e.0)) es

  -- a list that comes before all entries comes before the encoding of each key
  before_key : (q : List ℕ) (es : List (List ℕ × (K × V))) (n : ℕ) (p : K × V) → T (below_all (slice_cmp nat_cmp) q es) → Each (λ e. e.0 ≡ enc e.1.0) es → slice_get (each (λ e. e.1) es) n ≡ Some p
      → T (is_lt (slice_cmp nat_cmp q (enc p.0)))
  before_key q [] n p h keyed at = absurd (not_None p at)
  before_key q (e ∷ es) zero p h keyed at = subst (λ l. T (is_lt (slice_cmp nat_cmp q l))) (keyed.0 ∙ ap (λ x. enc x.0) (same_Some _ _ at)) (first_of_both _ _ h)
  before_key q (e ∷ es) (suc n) p h keyed at = before_key q es n p (second_of_both _ _ h) keyed.1 at

  -- all entries come after such a list
  all_later : (q : List ℕ) (es : List (List ℕ × (K × V))) → T (below_all (slice_cmp nat_cmp) q es) → later q es ≡ es
  all_later q [] h = refl
  all_later q (e ∷ es) h = ap (λ o. cond (is_lt o) (e ∷ later q es) (later q es)) (less_by_test _ (first_of_both _ _ h)) ∙ ap (λ l. e ∷ l) (all_later q es (second_of_both _ _ h))

  -- the pairs up to one, and those after its key, are all pairs
  pub next_page : (es : List (List ℕ × (K × V))) (n : ℕ) (p : K × V) → T (is_sorted (slice_cmp nat_cmp) es) → Each (λ e. e.0 ≡ enc e.1.0) es → slice_get (each (λ e. e.1) es) n ≡ Some p
      → take (suc n) (each (λ e. e.1) es) ++ each (λ e. e.1) (later (enc p.0) es) ≡ each (λ e. e.1) es
  next_page [] n p sorted keyed at = absurd (not_None p at)
  next_page (e ∷ es) zero p sorted keyed at =
      let same : enc p.0 ≡ e.0 = sym (keyed.0 ∙ ap (λ x. enc x.0) (same_Some _ _ at)) in
      ap (λ l. e.1 ∷ each (λ x. x.1) l)
      (ap (λ q. later q (e ∷ es)) same ∙ ap (λ o. cond (is_lt o) (e ∷ later e.0 es) (later e.0 es)) (tied_itself nat_list_cmp_total e.0) ∙ all_later e.0 es (first_of_both _ _ sorted))
  next_page (e ∷ es) (suc n) p sorted keyed at =
      let before = before_key e.0 es n p (first_of_both _ _ sorted) keyed.1 at in
      ap (λ o. e.1 ∷ (take (suc n) (each (λ x. x.1) es) ++ each (λ x. x.1) (cond (is_lt o) (e ∷ later (enc p.0) es) (later (enc p.0) es)))) (greater_by_less (slice_cmp nat_cmp) nat_list_cmp_total e.0 (enc p.0) before)
      ∙ ap (λ l. e.1 ∷ l) (next_page es n p (second_of_both _ _ sorted) keyed.1 at)

-- what each item of a walk has, each of a page of it has
pub each_of_page : {A B : Type 0} (f : A → B) (P : B → Type 0) (n : ℕ) (xs : List A) → Each P (each f xs) → Each P (each f (take n xs))
each_of_page f P zero xs h = tt
each_of_page f P (suc n) [] h = tt
each_of_page f P (suc n) (x ∷ xs) h = (h.0, each_of_page f P n xs h.1)

-- and what holds of each item and each later one, too
pub pairs_of_page : {A B : Type 0} (f : A → B) (R : B → B → Type 0) (n : ℕ) (xs : List A) → AllPairs R (each f xs) → AllPairs R (each f (take n xs))
pairs_of_page f R zero xs h = λ i j d lt within. absurd (omega (arith, lt, within))
pairs_of_page f R (suc n) [] h = h
pairs_of_page f R (suc n) (x ∷ xs) h =
    AllPairs-cons R (f x) (each f (take n xs))
    (subst (All (R (f x))) (take-map f n xs) (All-take (R (f x)) n (each f xs) (λ j d within. h zero (suc j) d (omega arith) (omega arith))))
    (pairs_of_page f R n xs (λ i j d lt within. h (suc i) (suc j) d (omega arith) (omega arith)))
