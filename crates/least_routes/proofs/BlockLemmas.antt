-- Blocks of addresses: those that agree in all but their last so many bits.
use Rattle.std.proofs.Common.{◌≡◌, ℕ, suc, ◌+◌, ◌-◌, ◌*◌, ◌/◌, ◌%◌, ◌^◌, ◌<◌, ◌≤◌, ◌⊎◌, ◌∙◌, subst, sym, ap, inl, inr, arith}
use Rattle.std.proofs.lemmas.Nat.{shr-shr, shl-shr}
use Rattle.std.proofs.Math.Nat.{two-pow-succ}
use Rattle.std.proofs.Math.Pow.{pow_mono}
use Rattle.std.proofs.lemmas.Bool.{cases_eq}

-- numbers in one block are in one greater block
pub coarser : (a b n k : ℕ) → n ≤ k → a / 2 ^ n ≡ b / 2 ^ n → a / 2 ^ k ≡ b / 2 ^ k
coarser a b n k h e =
    let s : n + (k - n) ≡ k = omega arith in
    ap (λ t. a / 2 ^ t) (sym s) ∙ sym (shr-shr a n (k - n)) ∙ ap (λ t. t / 2 ^ (k - n)) e
    ∙ shr-shr b n (k - n) ∙ ap (λ t. b / 2 ^ t) s

-- the block of one more bit
pub half-block : (a n : ℕ) → a / 2 ^ suc n ≡ a / 2 ^ n / 2
half-block a n = let s : suc n ≡ n + 1 = omega arith in ap (λ t. a / 2 ^ t) s ∙ sym (shr-shr a n 1)

-- a number of a block is in one of its halves
pub in_half : (a n q : ℕ) → a / 2 ^ suc n ≡ q → (a / 2 ^ n ≡ 2 * q) ⊎ (a / 2 ^ n ≡ 2 * q + 1)
in_half a n q e =
    let x = a / 2 ^ n in
    let h : x / 2 ≡ q = sym (half-block a n) ∙ e in
    elim (cases_eq (x % 2) 0) [ inl z ↦ inl (omega arith) | inr z ↦ inr (omega arith) ]

-- a number of the lower half is in the block
pub from_low : (a n q : ℕ) → a / 2 ^ n ≡ 2 * q → a / 2 ^ suc n ≡ q
from_low a n q e = omega (arith, half-block a n)

-- a number of the upper half is in the block
pub from_high : (a n q : ℕ) → a / 2 ^ n ≡ 2 * q + 1 → a / 2 ^ suc n ≡ q
from_high a n q e = omega (arith, half-block a n)

-- the first address of a block is in it
pub first_in : (n q : ℕ) → q * 2 ^ n / 2 ^ n ≡ q
first_in n q = shl-shr q n

-- the halves of a block have numbers that fit
pub half_fits : (w n q : ℕ) → 0 < n → n ≤ w → q < 2 ^ (w - n) → 2 * q + 1 < 2 ^ (w - (n - 1))
half_fits w n q some le fits =
    let more : w - (n - 1) ≡ suc (w - n) = omega arith in
    subst (λ k. 2 * q + 1 < 2 ^ k) (sym more) (omega (arith, two-pow-succ (w - n)))

-- and so they fit in as many bits as there are
pub half_fits_in : (v w n q : ℕ) → w ≤ v → 0 < n → n ≤ w → q < 2 ^ (w - n) → 2 * q + 1 < 2 ^ v
half_fits_in v w n q wide some le fits =
    let le_v : w - (n - 1) ≤ v = omega arith in
    omega (arith, half_fits w n q some le fits, pow_mono le_v)
