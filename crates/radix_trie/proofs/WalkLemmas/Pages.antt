-- Pages: the first pairs that a cursor has left.
use Rattle.std.proofs.Common.{◌≡◌, ℕ, ◌≤◌, List, [], ◌∷◌, ◌++◌, drop, length, take, Option, Some, None, option_map, Bor, ap, sym, ◌∙◌, append-nil, arith}
use Rattle.std.proofs.lemmas.List.{take_all}
use Rattle.std.proofs.Math.Seq.{take-append_seam}
use Rattle.std.specs.List.{slice_get}
use Rattle.radix_trie.specs.Walks.{deref_pair}

module _ {A : Type 0} where
  -- where two lists are empty together, the second is empty
  pub rest_is_empty : (xs ys : List A) → xs ++ ys ≡ [] → ys ≡ []
  rest_is_empty [] ys bare = bare
  rest_is_empty (x ∷ xs) ys bare = cc

  -- and has no first item
  pub none_comes_next : (xs ys : List A) (x : A) → xs ++ ys ≡ [] → Some x ≡ slice_get ys 0 → ⊥
  none_comes_next xs ys x bare at = let e = at ∙ ap (λ s. slice_get s 0) (rest_is_empty xs ys bare) in cc e

  -- some of a list and those behind them, where these have no first item, or there are enough without them
  module _ (xs ys all : List A) (is : xs ++ ys ≡ all) (n : ℕ) (few : length xs ≤ n) where
    -- with none behind them they are its first ones
    pub all_taken : None ≡ slice_get ys 0 → xs ≡ take n all
    all_taken none = sym (take_all n xs few) ∙ ap (take n) (sym (append-nil xs) ∙ ap (λ zs. xs ++ zs) (sym (by ys none)) ∙ is)
      where
        by : (zs : List A) → None ≡ slice_get zs 0 → zs ≡ []
        by [] e = λ i. []
        by (z ∷ zs) e = cc

    -- and where they are enough
    pub enough_taken : n ≤ length xs → xs ≡ take n all
    enough_taken enough = sym (take-append_seam xs ys) ∙ (λ i. take (size i) (is i))
      where
        size : length xs ≡ n
        size = omega (arith, few, enough)

module _ {K V : Type 0} (ps : List (K × V)) (found : Option (Bor K × Bor V)) (at : option_map deref_pair found ≡ slice_get ps 0) where
  -- a walk of which a step has returned a pair has that one and then its rest
  pub next_pair : (p : Bor K × Bor V) (rest : List (K × V)) → found ≡ Some p → rest ≡ drop 1 ps → ps ≡ deref_pair p ∷ rest
  next_pair p rest is left = by ps (sym (ap (option_map deref_pair) is) ∙ at) ∙ ap (λ qs. deref_pair p ∷ qs) (sym left)
    where
      by : (qs : List (K × V)) → Some (deref_pair p) ≡ slice_get qs 0 → qs ≡ deref_pair p ∷ drop 1 qs
      by [] e = cc
      by (q ∷ qs) e = cc e

  -- one of which a step has returned none is over
  pub no_next_pair : found ≡ None → ps ≡ []
  no_next_pair is = by ps (sym (ap (option_map deref_pair) is) ∙ at)
    where
      by : (qs : List (K × V)) → None ≡ slice_get qs 0 → qs ≡ []
      by [] e = λ i. []
      by (q ∷ qs) e = cc
