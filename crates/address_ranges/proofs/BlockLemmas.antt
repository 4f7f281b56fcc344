-- Blocks of numbers: those that agree in all but their last bits.
use Rattle.std.proofs.Common.{◌≡◌, ℕ, zero, suc, ◌+◌, ◌-◌, ◌*◌, ◌/◌, ◌%◌, ◌^◌, ◌<◌, ◌≤◌, min, inl, inr, ap, subst, ◌∙◌, arith}
use Rattle.std.specs.Int.{bit_at, trailing_zeros, w128}
use Rattle.std.proofs.lemmas.Bool.{cases_lt}
use Rattle.std.proofs.lemmas.Nat.{le-div, mod-pow-add, mod_below, mul-le, pow_below, pow_pos, shr_split}
use Rattle.std.proofs.lemmas.Nat.Bits.{bit_at-trailing_zeros}
use Rattle.std.proofs.Math.Nat.{div-mul-le_self, pow-suc}
use lib.Count.{trailing_of_zero}

-- the smaller power has the smaller exponent
pub pow_le : (e k : ℕ) → 2 ^ e ≤ 2 ^ k → e ≤ k
pow_le e k h = elim (cases_lt k e) [ inl lt ↦ absurd (omega (arith, pow_below k e lt, h)) | inr le ↦ le ]

-- the power of the larger exponent is no less
pub pow_up : (e k : ℕ) → e ≤ k → 2 ^ e ≤ 2 ^ k
pow_up e k h = elim (cases_lt e k) [
  | inl lt ↦ let up = pow_below e k lt in omega (arith, up)
  | inr ge ↦ let same : k ≡ e = omega (arith, h, ge) in omega (arith, ap (λ x. 2 ^ x) same)
]

-- the first number of a block is the first of a smaller one
pub finer : (m e d : ℕ) → e ≤ d → m % 2 ^ d ≡ 0 → m % 2 ^ e ≡ 0
finer m e d le none =
    let whole : d ≡ (d - e) + e = omega (arith, le) in
    let split = mod-pow-add m (d - e) e in
    let z = subst (λ k. m % 2 ^ k ≡ 0) whole none in
    omega (arith, split, z)

-- first numbers of blocks of one size are that far apart
pub far : (x y e : ℕ) → x % 2 ^ e ≡ 0 → y % 2 ^ e ≡ 0 → x < y → x + 2 ^ e ≤ y
far x y e p q lt =
    let b = 2 ^ e in
    elim (cases_lt (x / b) (y / b)) [
      | inl less ↦
          let next : (x / b + 1) * b ≤ y / b * b = mul-le (x / b + 1) b (y / b) b (omega (arith, less)) (omega arith) in
          omega (arith, next, shr_split x e, shr_split y e, p, q)
      | inr le ↦
          let back : y / b * b ≤ x / b * b = mul-le (y / b) b (x / b) b le (omega arith) in
          absurd (omega (arith, back, shr_split x e, shr_split y e, p, q, lt))
    ]

-- the numbers of a block are those from its first one up
pub of_block : (b n e : ℕ) → b % 2 ^ e ≡ 0 → b / 2 ^ e ≡ n / 2 ^ e → (b ≤ n) × (n < b + 2 ^ e)
of_block b n e none same =
    let p = ap (λ q. q * 2 ^ e) same in (
      omega (arith, shr_split b e, none, shr_split n e, p),
      omega (arith, shr_split b e, none, shr_split n e, p, mod_below n (2 ^ e) (pow_pos e)),
    )

-- quotients don't fall
div_up : (x y e : ℕ) → x ≤ y → x / 2 ^ e ≤ y / 2 ^ e
div_up x y e h = le-div (x / 2 ^ e) y (2 ^ e) (pow_pos e) (omega (arith, h, div-mul-le_self x (2 ^ e)))

-- a number from the first one up is in the block
pub in_block : (b n e : ℕ) → b % 2 ^ e ≡ 0 → b ≤ n → n < b + 2 ^ e → b / 2 ^ e ≡ n / 2 ^ e
in_block b n e none low high =
    let p = 2 ^ e in
    elim (cases_lt (b / p) (n / p)) [
      | inl less ↦
          let next : (b / p + 1) * p ≤ n / p * p = mul-le (b / p + 1) p (n / p) p (omega (arith, less)) (omega arith) in
          absurd (omega (arith, next, shr_split b e, none, shr_split n e, high))
      | inr le ↦ omega (arith, le, div_up b n e low)
    ]

-- one bit more
next_bit : (n t : ℕ) → n % 2 ^ suc t ≡ (n / 2 ^ t % 2) * 2 ^ t + n % 2 ^ t
next_bit n t =
    let one : 1 + t ≡ suc t = omega arith in
    subst (λ k. n % 2 ^ k ≡ (n / 2 ^ t % 2) * 2 ^ t + n % 2 ^ t) one (mod-pow-add n 1 t)

-- a number whose last bits are all 0 begins a block
no_bits : (n t : ℕ) → ((i : ℕ) → i < t → bit_at n i ≡ 0) → n % 2 ^ t ≡ 0
no_bits n zero h = let low = mod_below n 1 in omega (arith, low)
no_bits n (suc t) h =
    let rest : n % 2 ^ t ≡ 0 = no_bits n t (λ i lt. h i (omega (arith, lt))) in
    let here : n / 2 ^ t % 2 ≡ 0 = h t (omega arith) in
    next_bit n t ∙ ap (λ b. b * 2 ^ t + n % 2 ^ t) here ∙ omega (arith, rest)

-- a number begins the block of as many free bits as 0s end it
pub ends_in_zeros : (n : ℕ) → 0 < n → n < 2 ^ 128 → n % 2 ^ trailing_zeros w128 n ≡ 0
ends_in_zeros n some fits = no_bits n (trailing_zeros w128 n) (bit_at-trailing_zeros w128 n some fits).2

-- and of no more
pub no_more_zeros : (n e : ℕ) → 0 < n → n < 2 ^ 128 → n % 2 ^ e ≡ 0 → e ≤ trailing_zeros w128 n
no_more_zeros n e some fits ends =
    let t = trailing_zeros w128 n in
    let bit : n / 2 ^ t % 2 ≡ 1 = (bit_at-trailing_zeros w128 n some fits).1 in
    elim (cases_lt t e) [
      | inr le ↦ le
      | inl less ↦
          let none : n % 2 ^ suc t ≡ 0 = finer n (suc t) e (omega (arith, less)) ends in
          let split : n % 2 ^ suc t ≡ 1 * 2 ^ t + n % 2 ^ t = next_bit n t ∙ ap (λ b. b * 2 ^ t + n % 2 ^ t) bit in
          absurd (omega (arith, none, split, pow_pos t))
    ]

-- of two exponents, that up to which the 0s at the end of the first number go and that of the largest power that the range
-- has room for, the less one is that of the largest block at the beginning of the range
pub record IsLargest (m n e : ℕ) : Type 0 where
  pub begins : m % 2 ^ e ≡ 0
  pub within : m + 2 ^ e ≤ n + 1
  pub largest : (d : ℕ) → m % 2 ^ d ≡ 0 → m + 2 ^ d ≤ n + 1 → d ≤ e

-- k is the exponent of the largest power of 2 that is at most x
pub record IsLog (x k : ℕ) : Type 0 where
  pub fits : 2 ^ k ≤ x
  pub most : (e : ℕ) → 2 ^ e ≤ x → e ≤ k

pub log_of : (x k : ℕ) → 2 ^ k ≤ x → x < 2 * 2 ^ k → IsLog x k
log_of x k low high = record {
  fits = low;
  most = λ e h. elim (cases_lt k e) [
    | inl less ↦ absurd (omega (arith, pow_up (suc k) e (omega (arith, less)), pow-suc 2 k, h, high))
    | inr le ↦ le
  ];
}

pub log_of_all : (x : ℕ) → x ≡ 2 ^ 128 → IsLog x 128
log_of_all x same = record { fits = omega (arith, same); most = λ e h. pow_le e 128 (omega (arith, same, h)) }

pub largest_of : (m n k r : ℕ) → m ≤ n → n < 2 ^ 128 → IsLog (n - m + 1) k → r ≡ min (trailing_zeros w128 m) k → IsLargest m n r
largest_of m n k r le fits log is = elim (cases_lt 0 m) [
  | inl some ↦ record {
    begins = finer m r (trailing_zeros w128 m) (omega (arith, is)) (ends_in_zeros m some (omega (arith, le, fits)));
    within = omega (arith, le, pow_up r k (omega (arith, is)), log.fits);
    largest = λ d zeros inside.
        let first = no_more_zeros m d some (omega (arith, le, fits)) zeros in
        let second = log.most d (omega (arith, le, inside)) in
        omega (arith, is, first, second);
  }
  | inr none ↦ record {
    begins = let nothing : m ≡ 0 = omega (arith, none) in omega (arith, shr_split m r, nothing);
    within = omega (arith, le, pow_up r k (omega (arith, is)), log.fits);
    largest = λ d zeros inside.
        let nothing : m ≡ 0 = omega (arith, none) in
        let all : trailing_zeros w128 m ≡ 128 = ap (trailing_zeros w128) nothing ∙ trailing_of_zero 128 in
        let first = pow_le d 128 (omega (arith, inside, nothing, fits)) in
        let second = log.most d (omega (arith, le, inside)) in
        omega (arith, is, all, first, second);
  }
]
