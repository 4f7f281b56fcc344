-- The first bits of a number, and what they tell of it.
use Rattle.std.specs.Prelude.{◌≡◌, ℕ, zero, suc, ◌+◌, ◌-◌, ◌*◌, ◌/◌, ◌%◌, ◌^◌, ◌<◌, ◌≤◌, ◌&&◌, nat_eq, ◌∷◌, length, take, refl, true}
use Rattle.std.proofs.Common.{arith, sym, ap, subst, ◌∙◌}
use Rattle.std.proofs.Math.Nat.{div-add-mod, mod-eq_of_lt}
use Rattle.std.proofs.lemmas.Bool.{eq-eqb}
use Rattle.std.proofs.lemmas.List.{length-take-le}
use Rattle.std.proofs.lemmas.Nat.{shr-shr, shr_below, mod-pow-add}
use Rattle.radix_keys.specs.Bits.{bits_high_first, first_bits}
use Rattle.radix_keys.specs.Distinct.{both-true}
use Rattle.radix_keys.specs.Networks.{IsBase}

-- so many bits of a number are as many
pub length-bits_high_first : (w n : ℕ) → length (bits_high_first w n) ≡ w
length-bits_high_first zero n = refl
length-bits_high_first (suc w) n = ap suc (length-bits_high_first w n)

-- the first m of m + d bits are those of the quotient by what the other d count for
pub take-bits_high_first : (m d n : ℕ) → take m (bits_high_first (m + d) n) ≡ bits_high_first m (n / 2 ^ d)
take-bits_high_first zero d n = refl
take-bits_high_first (suc m) d n =
    let more : suc m + d ≡ suc (m + d) = omega arith in
    let swapped : m + d ≡ d + m = omega arith in
    let head : n / 2 ^ (m + d) % 2 ≡ n / 2 ^ d / 2 ^ m % 2 =
    ap (λ t. t % 2) (ap (λ e. n / 2 ^ e) swapped ∙ sym (shr-shr n d m)) in
    let tail = take-bits_high_first m d n in
    let next : take (suc m) (bits_high_first (suc (m + d)) n) ≡ bits_high_first (suc m) (n / 2 ^ d) = λ i. head i ∷ tail i in
    ap (λ w. take (suc m) (bits_high_first w n)) more ∙ next

-- the highest of the lowest bits, and those below it
pub highest_bit : (w n : ℕ) → n % 2 ^ suc w ≡ n / 2 ^ w % 2 * 2 ^ w + n % 2 ^ w
highest_bit w n = let one : suc w ≡ 1 + w = omega arith in ap (λ e. n % 2 ^ e) one ∙ mod-pow-add n 1 w

-- the lowest bits tell what is left of a number
bits_high_first-same : (w x y : ℕ) → bits_high_first w x ≡ bits_high_first w y → x % 2 ^ w ≡ y % 2 ^ w
bits_high_first-same zero x y e = omega arith
bits_high_first-same (suc w) x y e =
    let head : x / 2 ^ w % 2 ≡ y / 2 ^ w % 2 = cc in
    let tail : bits_high_first w x ≡ bits_high_first w y = cc in
    highest_bit w x ∙ ap (λ d. d * 2 ^ w + x % 2 ^ w) head
    ∙ ap (λ r. y / 2 ^ w % 2 * 2 ^ w + r) (bits_high_first-same w x y tail)
    ∙ sym (highest_bit w y)

-- bits tell a number that has no more of them
pub bits_high_first-injective : (w x y : ℕ) → x < 2 ^ w → y < 2 ^ w → bits_high_first w x ≡ bits_high_first w y → x ≡ y
bits_high_first-injective w x y p q e =
    sym (mod-eq_of_lt {n = x} {m = 2 ^ w} p) ∙ bits_high_first-same w x y e ∙ mod-eq_of_lt {n = y} {m = 2 ^ w} q

-- the first m of w bits are those of the quotient by what the others count for
pub first_bits-quotient : (w m n : ℕ) → m ≤ w → first_bits w n m ≡ bits_high_first m (n / 2 ^ (w - m))
first_bits-quotient w m n le =
    let whole : w ≡ m + (w - m) = omega (arith, le) in
    ap (λ u. take m (bits_high_first u n)) whole ∙ take-bits_high_first m (w - m) n

-- that quotient has no more than m bits
pub first_bits-small : (w m n : ℕ) → m ≤ w → n < 2 ^ w → n / 2 ^ (w - m) < 2 ^ m
first_bits-small w m n le fits =
    let whole : w ≡ m + (w - m) = omega (arith, le) in
    shr_below n m (w - m) (subst (λ u. n < 2 ^ u) whole fits)

-- the bits that a network's addresses share tell the network
pub first_bits-distinct : (w m k n j : ℕ) → IsBase w k m → IsBase w j n → first_bits w m k ≡ first_bits w n j
    → (nat_eq m n && nat_eq k j) ≡ true
first_bits-distinct w m k n j p q e =
    let count : k ≡ j = omega (
      arith,
      p.1,
      q.1,
      ap length e,
      length-take-le k (bits_high_first w m) (omega (arith, length-bits_high_first w m, p.1)),
      length-take-le j (bits_high_first w n) (omega (arith, length-bits_high_first w n, q.1)),
    ) in
    let others : first_bits w n j ≡ first_bits w n k = ap (λ c. first_bits w n c) (sym count) in
    let quotient : m / 2 ^ (w - k) ≡ n / 2 ^ (w - k) =
    bits_high_first-injective k (m / 2 ^ (w - k)) (n / 2 ^ (w - k)) (first_bits-small w k m p.1 p.0) (first_bits-small w k n p.1 q.0)
    (sym (first_bits-quotient w k m p.1) ∙ e ∙ others ∙ first_bits-quotient w k n p.1) in
    let none : n % 2 ^ (w - k) ≡ 0 = subst (λ c. n % 2 ^ (w - c) ≡ 0) (sym count) q.2 in
    let d = 2 ^ (w - k) in
    let same : m ≡ n =
    sym (div-add-mod m d) ∙ ap (λ r. d * (m / d) + r) (p.2 ∙ sym none) ∙ ap (λ t. d * t + n % d) quotient ∙ div-add-mod n d in
    both-true (eq-eqb m n same) (eq-eqb k j count)
