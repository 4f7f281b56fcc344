-- A walk up, from its other end.
use Rattle.std.proofs.Common.{◌≡◌, ℕ, zero, suc, ◌+◌, ◌<◌, List, [], ◌∷◌, ◌++◌, length, take, drop, ap, ◌∙◌, arith}
use Rattle.std.proofs.lemmas.List.{length-drop}

-- what is taken with the next one
taken_next : {A : Type 0} (n : ℕ) (xs : List A) (x : A) (rest : List A) → drop n xs ≡ x ∷ rest → take (suc n) xs ≡ take n xs ++ x ∷ []
taken_next zero [] x rest e = absurd (cc e)
taken_next zero (y ∷ ys) x rest e = ap (take 1) e
taken_next (suc n) [] x rest e = absurd (cc e)
taken_next (suc n) (y ∷ ys) x rest e = ap (λ t. y ∷ t) (taken_next n ys x rest e)

-- what is dropped with the next one
dropped_next : {A : Type 0} (n : ℕ) (xs : List A) (x : A) (rest : List A) → drop n xs ≡ x ∷ rest → drop (suc n) xs ≡ rest
dropped_next zero [] x rest e = absurd (cc e)
dropped_next zero (y ∷ ys) x rest e = ap (drop 1) e
dropped_next (suc n) [] x rest e = absurd (cc e)
dropped_next (suc n) (y ∷ ys) x rest e = dropped_next n ys x rest e

-- walks up from places, of which that at 0 is at its end, and one whole
module _ {A : Type 0} (parents : ℕ → List A) (none : parents 0 ≡ []) (all : List A) where
  -- a place with something left is none at the end
  pub some_left : (i at : ℕ) → drop i all ≡ parents at → i < length all → 0 < at
  some_left i zero e l = absurd (let n = ap length (e ∙ none) in omega (arith, n, length-drop i all, l))
  some_left i (suc at) e l = omega arith

  module _ (i at link : ℕ) (p : A) (e : drop i all ≡ parents at) (step : parents at ≡ p ∷ parents link) where
    -- one step up
    pub one_up : drop (i + 1) all ≡ parents link
    one_up = let next : i + 1 ≡ suc i = omega arith in ap (λ n. drop n all) next ∙ dropped_next i all p (parents link) (e ∙ step)

    -- the last of those that are left
    pub last_up : take (i + 1) all ≡ take i all ++ p ∷ []
    last_up = let next : i + 1 ≡ suc i = omega arith in ap (λ n. take n all) next ∙ taken_next i all p (parents link) (e ∙ step)
