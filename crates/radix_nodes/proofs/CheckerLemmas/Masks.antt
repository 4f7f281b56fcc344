-- The mask that a list's bits make.
use Rattle.std.proofs.Common.{◌≡◌, ◌↔◌, ℕ, ◌^◌, ◌<◌, ◌==◌, cond, List, [], ◌∷◌, refl, ap, sym, subst, ◌∙◌, arith, inl, inr}
use Rattle.std.specs.Int.{bit_at, w16}
use Rattle.std.proofs.lemmas.Bool.Decides.{eqb_tells}
use Rattle.std.proofs.lemmas.Nat.Bits.{bit_at_set_same, bit_at_set_other, bit_at-zero, same_from_bits}
use Rattle.nibble_map.specs.Lists.{Each}
use Rattle.masked_tree.specs.Mask.{IsMask, bit_of, marked}
use Rattle.masked_tree.proofs.MaskLemmas.{marked_lt}

-- a mask to which the bits of a list's numbers are added
abbrev pub with_bits : ℕ → List ℕ → ℕ
with_bits seen [] = seen
with_bits seen (x ∷ xs) = with_bits (marked seen x) xs

-- the bit n of the mask, or of the list
abbrev mixed : ℕ → ℕ → List ℕ → ℕ
mixed seen n [] = bit_at seen n
mixed seen n (x ∷ xs) = cond (x == n) 1 (mixed seen n xs)

-- numbers below 16, rising or not
abbrev pub AreSmall : List ℕ → Type 0
AreSmall xs = Each (λ x. x < 16) xs

-- a mask of sixteen bits stays one when the bits of a list are added
with_bits_lt : (xs : List ℕ) (seen : ℕ) → seen < 2 ^ 16 → with_bits seen xs < 2 ^ 16
with_bits_lt [] seen fits = fits
with_bits_lt (x ∷ xs) seen fits = with_bits_lt xs (marked seen x) (marked_lt seen x fits)

-- with the bit x added, the bit x is set
mixed_same : (seen x : ℕ) (xs : List ℕ) → x < 16 → mixed (marked seen x) x xs ≡ 1
mixed_same seen x [] l = bit_at_set_same w16 seen x l
mixed_same seen x (y ∷ xs) l = elim (eqb_tells y x) [ inl t ↦ rw t.0 refl | inr t ↦ rw t.0 (mixed_same seen x xs l) ]

-- with another bit than n added, the bit n is as it was
mixed_other : (seen x n : ℕ) (xs : List ℕ) → x < 16 → (x ≡ n → ⊥) → mixed (marked seen x) n xs ≡ mixed seen n xs
mixed_other seen x n [] l d = bit_at_set_other w16 seen x l n (λ e. d (sym e))
mixed_other seen x n (y ∷ xs) l d = ap (cond (y == n) 1) (mixed_other seen x n xs l d)

-- the bit n of a mask with a list's bits is set by the mask or by the list
with_bits_at : (xs : List ℕ) (seen n : ℕ) → AreSmall xs → bit_at (with_bits seen xs) n ≡ mixed seen n xs
with_bits_at [] seen n h = refl
with_bits_at (x ∷ xs) seen n h =
    with_bits_at xs (marked seen x) n h.1
    ∙ elim (eqb_tells x n) [
      | inl t ↦ rw (t.0, ← t.1) (mixed_same seen x xs h.0)
      | inr t ↦ rw t.0 (mixed_other seen x n xs h.0 t.1)
    ]

-- the bit n of the empty mask or of a list is that of the list
mixed_zero : (n : ℕ) (xs : List ℕ) → mixed 0 n xs ≡ bit_of n xs
mixed_zero n [] = bit_at-zero n
mixed_zero n (x ∷ xs) = ap (cond (x == n) 1) (mixed_zero n xs)

-- the bits of a list, added to none, are a mask exactly where that is the mask of the list
pub mask_is : (mask : ℕ) (xs : List ℕ) → AreSmall xs → (with_bits 0 xs ≡ mask) ↔ IsMask mask xs
mask_is mask xs h = (
  λ e. (subst (λ m. m < 2 ^ 16) e (with_bits_lt xs 0 (omega arith)), λ n. ap (λ m. bit_at m n) (sym e) ∙ with_bits_at xs 0 n h ∙ mixed_zero n xs),
  λ is. same_from_bits (with_bits 0 xs) mask (λ n. with_bits_at xs 0 n h ∙ mixed_zero n xs ∙ sym (is.1 n)),
)
