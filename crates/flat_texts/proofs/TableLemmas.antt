-- Lists that grow by what stands next.
use Rattle.std.proofs.Common.{◌≡◌, ℕ, zero, suc, ◌+◌, List, [], ◌∷◌, ◌++◌, Some, slice_get, take, ap, ◌∙◌, arith}

-- what stands next is taken with those before it
taken_with : {A : Type 0} (xs : List A) (i : ℕ) (x : A) → Some x ≡ slice_get xs i → take (suc i) xs ≡ take i xs ++ x ∷ []
taken_with [] i x e = absurd (cc e)
taken_with (y ∷ ys) zero x e = cc e
taken_with (y ∷ ys) (suc i) x e = ap (λ r. y ∷ r) (taken_with ys i x e)

pub taken_next : {A : Type 0} (xs : List A) (i : ℕ) (x : A) → Some x ≡ slice_get xs i → take (i + 1) xs ≡ take i xs ++ x ∷ []
taken_next xs i x e = let next : i + 1 ≡ suc i = omega arith in ap (λ n. take n xs) next ∙ taken_with xs i x e
