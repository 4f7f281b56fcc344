-- The order of lists: the first place at which they differ decides, or the shorter one comes first.
use Rattle.std.proofs.Common.{◌≡◌, ◌≢◌, ◌⊎◌, inl, inr, ℕ, zero, suc, ◌<◌, ◌≤◌, List, [], ◌∷◌, length, get_or, take, refl, arith, sym, ap, ◌∙◌}
use Rattle.std.specs.Cmp.{nat_cmp_is}
use Rattle.std.specs.Cmp.Lexicographic.{slice_cmp}
use Rattle.std.specs.Ordering.{nat_cmp}
use Rattle.std.specs.declared.cmp.Ordering.TheVariants.{Less, Equal, Greater}
use Rattle.radix_keys.proofs.KeyLemmas.Order.{three_ways}

-- two numbers stand in the order of those before them
nat_cmp-suc : (a b : ℕ) → nat_cmp (suc a) (suc b) ≡ nat_cmp a b
nat_cmp-suc a b = elim (three_ways a b) [
  | inl lt ↦ sym (nat_cmp_is (suc a) (suc b) Less (omega (arith, lt))) ∙ nat_cmp_is a b Less lt
  | inr (inl same) ↦ sym (nat_cmp_is (suc a) (suc b) Equal (ap suc same)) ∙ nat_cmp_is a b Equal same
  | inr (inr gt) ↦ sym (nat_cmp_is (suc a) (suc b) Greater (omega (arith, gt))) ∙ nat_cmp_is a b Greater gt
]

-- lists that agree up to a place and differ there are in the order of what stands there
pub compare_apart : (n : ℕ) (xs ys : List ℕ) → n < length xs → n < length ys → take n xs ≡ take n ys
    → get_or xs n 0 ≢ get_or ys n 0 → nat_cmp (get_or xs n 0) (get_or ys n 0) ≡ slice_cmp nat_cmp xs ys
compare_apart n [] ys l m e apart = absurd (omega (arith, l))
compare_apart n (x ∷ xs) [] l m e apart = absurd (omega (arith, m))
compare_apart zero (x ∷ xs) (y ∷ ys) l m e apart = elim (three_ways x y) [
  | inl lt ↦ rw (sym (nat_cmp_is x y Less lt)) refl
  | inr (inl same) ↦ absurd (apart same)
  | inr (inr gt) ↦ rw (sym (nat_cmp_is x y Greater gt)) refl
]
compare_apart (suc n) (x ∷ xs) (y ∷ ys) l m e apart =
    let fronts : x ∷ take n xs ≡ y ∷ take n ys = e in
    let same : x ≡ y = cc in
    let front : take n xs ≡ take n ys = cc in
    rw (sym (nat_cmp_is x y Equal same)) (compare_apart n xs ys (omega (arith, l)) (omega (arith, m)) front apart)

-- lists that agree up to the end of one of them are in the order of their lengths
pub compare_ended : (n : ℕ) (xs ys : List ℕ) → take n xs ≡ take n ys → (n ≡ length xs) ⊎ (n ≡ length ys)
    → n ≤ length xs → n ≤ length ys → nat_cmp (length xs) (length ys) ≡ slice_cmp nat_cmp xs ys
compare_ended n [] [] e end l m = refl
compare_ended n [] (y ∷ ys) e end l m = sym (nat_cmp_is 0 (suc (length ys)) Less (omega arith))
compare_ended n (x ∷ xs) [] e end l m = sym (nat_cmp_is (suc (length xs)) 0 Greater (omega arith))
compare_ended zero (x ∷ xs) (y ∷ ys) e end l m = elim end [
  | inl none ↦ absurd (omega (arith, none))
  | inr none ↦ absurd (omega (arith, none))
]
compare_ended (suc n) (x ∷ xs) (y ∷ ys) e end l m =
    let fronts : x ∷ take n xs ≡ y ∷ take n ys = e in
    let same : x ≡ y = cc in
    let front : take n xs ≡ take n ys = cc in
    let ended : (n ≡ length xs) ⊎ (n ≡ length ys) = elim end [ inl one ↦ inl (omega (arith, one)) | inr other ↦ inr (omega (arith, other)) ] in
    let rest = compare_ended n xs ys front ended (omega (arith, l)) (omega (arith, m)) in
    rw (sym (nat_cmp_is x y Equal same)) (nat_cmp-suc (length xs) (length ys) ∙ rest)
