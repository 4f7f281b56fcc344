-- Where a part of a part of bytes lies among all of them.
use Rattle.std.proofs.Common.{◌≡◌, ℕ, zero, suc, ◌+◌, ◌-◌, ◌≤◌, min, inl, inr, List, [], ◌∷◌, length, take, drop, refl, ap, sym, ◌∙◌, arith}
use Rattle.std.proofs.lemmas.Bool.{cases_lt}
use Rattle.std.proofs.lemmas.List.{drop-take, length-take}
use Rattle.std.proofs.Math.Seq.{take-nil}

-- as many of a list as some of its first ones are these
taken_own : (n : ℕ) (xs : List ℕ) → take (length (take n xs)) xs ≡ take n xs
taken_own zero xs = refl
taken_own (suc n) [] = refl
taken_own (suc n) (x ∷ xs) = ap (λ r. x ∷ r) (taken_own n xs)

-- and so it is with some of the first ones that are some of its first ones
taken_twice : (n m : ℕ) (xs : List ℕ) → take (length (take n (take m xs))) xs ≡ take n (take m xs)
taken_twice zero m xs = refl
taken_twice (suc n) zero xs = refl
taken_twice (suc n) (suc m) [] = refl
taken_twice (suc n) (suc m) (x ∷ xs) = ap (λ r. x ∷ r) (taken_twice n m xs)

-- nothing is behind a list
drop_past : (n : ℕ) (xs : List ℕ) → length xs ≤ n → drop n xs ≡ []
drop_past zero [] l = refl
drop_past zero (x ∷ xs) l = absurd (omega (arith, l))
drop_past (suc n) [] l = refl
drop_past (suc n) (x ∷ xs) l = drop_past n xs (omega (arith, l))

-- n bytes from s on among the first m, where they lie in all
pub part_there : (n s m : ℕ) (xs : List ℕ) → take (length (take n (drop s (take m xs)))) (drop (min s m) xs) ≡ take n (drop s (take m xs))
part_there n s m xs = elim (cases_lt m s) [
  | inl lt ↦
      let none : take n (drop s (take m xs)) ≡ [] = ap (take n) (drop_past s (take m xs) (omega (arith, lt, length-take m xs))) ∙ take-nil n in
      ap (λ p. take (length p) (drop (min s m) xs)) none ∙ sym none
  | inr ge ↦
      let here : min s m ≡ s = omega (arith, ge) in
      let sum : m ≡ s + (m - s) = omega (arith, ge) in
      let part : drop s (take m xs) ≡ take (m - s) (drop s xs) = ap (λ k. drop s (take k xs)) sum ∙ drop-take s (m - s) xs in
      ap (λ p. take (length (take n p)) (drop (min s m) xs)) part ∙ ap (λ k. take (length (take n (take (m - s) (drop s xs)))) (drop k xs)) here
      ∙ taken_twice n (m - s) (drop s xs) ∙ ap (take n) (sym part)
]
