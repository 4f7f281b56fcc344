-- The order of signed keys with the highest bit turned over.
use Rattle.std.proofs.Common.{◌≡◌, inl, inr, ℕ, zero, suc, ◌+◌, ◌-◌, ◌*◌, ◌/◌, ◌%◌, ◌^◌, ◌<◌, ◌≤◌, ◌<ℤ◌, List, ◌∷◌, ℤ, pos, negsuc, FitsSigned, refl, arith, sym, ap, subst, ◌∙◌}
use Rattle.std.proofs.Math.Facts.{ltb_yes}
use Rattle.std.proofs.Math.Nat.{mul-le-mul_right, suc-mul, mod-lt, add-mul-div_right, add-mul-mod_self_right, div-mul-le_self}
use Rattle.std.proofs.lemmas.Nat.Bits.{and_pow}
use Rattle.std.specs.Int.{Width, w8, w16, w32, w64, w128, byte_len, byte_at, bytes_high_first, to_be_bytes, cast_unsigned}
use Rattle.std.specs.Int.Bits.{bit_xor, bit_and, xor_add_and}
use Rattle.nibble_map.specs.Nibbles.{nibbles}
use Rattle.radix_keys.specs.AscendingKeys.{turned_bytes, ascending_key, KeepsAscendingOrder}
use Rattle.radix_keys.specs.Distinct.{pow-256-pos, digits-suc, byte_at-is}
use Rattle.radix_keys.specs.Integers.{signed_bytes, unsigned_key}
use Rattle.radix_keys.specs.Order.{Precedes}
use Rattle.radix_keys.proofs.KeyLemmas.Order.{three_ways, unsigned_order}
use mir.Val.{bits, hbits}

-- the highest bit of a byte
-- a byte below 128 is 128 more with its highest bit turned
turned_low : (x : ℕ) → x < 128 → bit_xor x 128 ≡ x + 128
turned_low x lt =
    let a : bit_and x 128 ≡ x / 128 % 2 * 128 = and_pow x 7 in
    let b = xor_add_and x 128 in
    omega (arith, a, b, lt)

-- a byte from 128 on is 128 less with its highest bit turned
turned_high : (x : ℕ) → x < 128 → bit_xor (x + 128) 128 ≡ x
turned_high x lt =
    let a : bit_and (x + 128) 128 ≡ (x + 128) / 128 % 2 * 128 = and_pow (x + 128) 7 in
    let b = xor_add_and (x + 128) 128 in
    omega (arith, a, b, lt)

-- two digits are told by the number
two_digits : (P a b r s : ℕ) → r < P → s < P → a * P + r ≡ b * P + s → (a ≡ b) × (r ≡ s)
two_digits P a b r s p q e = elim (three_ways a b) [
  | inl lt ↦ let m : suc a * P ≤ b * P = mul-le-mul_right P lt in absurd (omega (arith, m, suc-mul a P))
  | inr (inl same) ↦ let k = ap (λ t. t * P) same in (same, omega (arith, k))
  | inr (inr gt) ↦ let m : suc b * P ≤ a * P = mul-le-mul_right P gt in absurd (omega (arith, m, suc-mul b P))
]

-- the lowest bytes are told by what is left of the number
bytes_same : (k m n : ℕ) → m % 256 ^ k ≡ n % 256 ^ k → bytes_high_first k m ≡ bytes_high_first k n
bytes_same zero m n e = refl
bytes_same (suc k) m n e =
    let d = two_digits (256 ^ k) (byte_at k m) (byte_at k n) (m % 256 ^ k) (n % 256 ^ k) (mod-lt m (pow-256-pos k)) (mod-lt n (pow-256-pos k))
    (sym (digits-suc k m) ∙ e ∙ digits-suc k n) in
    let rest = bytes_same k m n d.1 in
    let head = d.0 in
    λ i. head i ∷ rest i

module _ (k n : ℕ) (small : n < 128 * 256 ^ k) where
  -- what the highest byte counts for
  P : ℕ
  P = 256 ^ k

  -- a number in the lower half has a highest byte below 128
  high_digit_small : n / 256 ^ k < 128
  high_digit_small = elim (three_ways (n / 256 ^ k) 128) [
    | inl lt ↦ lt
    | inr (inl same) ↦ let m = div-mul-le_self n (256 ^ k) in let e = ap (λ t. t * 256 ^ k) same in absurd (omega (arith, m, e))
    | inr (inr gt) ↦ let m = div-mul-le_self n (256 ^ k) in let l : suc 128 * 256 ^ k ≤ n / 256 ^ k * 256 ^ k = mul-le-mul_right (256 ^ k) gt in absurd (omega (arith, m, l, suc-mul 128 (256 ^ k)))
  ]

  -- the highest byte of a number in the lower half is its quotient by what that byte counts for
  low_byte : byte_at k n ≡ n / 256 ^ k
  low_byte = byte_at-is k n ∙ (let h = high_digit_small in omega (arith, h))

  -- moved to the upper half, a number has a highest byte 128 higher
  high_byte : byte_at k (n + 128 * 256 ^ k) ≡ n / 256 ^ k + 128
  high_byte = byte_at-is k (n + 128 * 256 ^ k) ∙ ap (λ t. t % 256) (add-mul-div_right n 128 {z = 256 ^ k} (pow-256-pos k)) ∙ (let h = high_digit_small in omega (arith, h))

  -- moved to the upper half, a number has the same lower bytes
  lower_bytes_same : bytes_high_first k (n + 128 * 256 ^ k) ≡ bytes_high_first k n
  lower_bytes_same = bytes_same k (n + 128 * 256 ^ k) n (add-mul-mod_self_right n 128 (256 ^ k))

  -- the bytes of a number in the lower half, turned over, are those of it in the upper half
  turned_up : turned_bytes (bytes_high_first (suc k) n) ≡ bytes_high_first (suc k) (n + 128 * 256 ^ k)
  turned_up =
      let head = ap (λ b. bit_xor b 128) low_byte ∙ turned_low (n / 256 ^ k) high_digit_small ∙ sym high_byte in
      let tail = sym lower_bytes_same in
      λ i. head i ∷ tail i

  -- the bytes of a number in the upper half, turned over, are those of it in the lower half
  turned_down : turned_bytes (bytes_high_first (suc k) (n + 128 * 256 ^ k)) ≡ bytes_high_first (suc k) n
  turned_down =
      let head = ap (λ b. bit_xor b 128) high_byte ∙ turned_high (n / 256 ^ k) high_digit_small ∙ sym low_byte in
      let tail = lower_bytes_same in
      λ i. head i ∷ tail i

-- a number's place among all of so many bits, the least first
offset : Width → ℤ → ℕ
offset w (pos m) = m + 2 ^ hbits w
offset w (negsuc m) = 2 ^ hbits w - suc m

-- of a width with k + 1 bytes: its bounds, and half of them, in powers of 256
record Parts (w : Width) : Type 0 where
  k : ℕ
  len : byte_len w ≡ suc k
  half : 2 ^ hbits w ≡ 128 * 256 ^ k
  whole : 2 ^ bits w ≡ 2 * 2 ^ hbits w
  bytes : 256 ^ byte_len w ≡ 2 * 2 ^ hbits w

-- the parts of each width
parts : (w : Width) → Parts w
parts w8 = record { k = 0; len = refl; half = refl; whole = refl; bytes = refl }
parts w16 = record { k = 1; len = refl; half = refl; whole = refl; bytes = refl }
parts w32 = record { k = 3; len = refl; half = refl; whole = refl; bytes = refl }
parts w64 = record { k = 7; len = refl; half = refl; whole = refl; bytes = refl }
parts w128 = record { k = 15; len = refl; half = refl; whole = refl; bytes = refl }

-- a signed number's bytes, turned over, are those of its place among all
offset_bytes : (w : Width) (z : ℤ) → FitsSigned w z → turned_bytes (signed_bytes w z) ≡ to_be_bytes w (offset w z)
unfolding offset
offset_bytes w (pos m) p =
    let s = parts w in
    let up = turned_up s.k m (omega (arith, p.sfits, s.half)) in
    subst (λ n. turned_bytes (bytes_high_first n m) ≡ bytes_high_first n (m + 2 ^ hbits w)) (sym s.len)
    (subst (λ h. turned_bytes (bytes_high_first (suc s.k) m) ≡ bytes_high_first (suc s.k) (m + h)) (sym s.half) up)
offset_bytes w (negsuc m) p =
    let s = parts w in
    let n = 2 ^ hbits w - suc m in
    let down = turned_down s.k n (omega (arith, p.sfits, s.half)) in
    let cast : cast_unsigned w (negsuc m) ≡ n + 128 * 256 ^ s.k = omega (arith, p.sfits, s.half, s.whole) in
    subst (λ l. turned_bytes (bytes_high_first l (cast_unsigned w (negsuc m))) ≡ bytes_high_first l n) (sym s.len)
    (ap (λ c. turned_bytes (bytes_high_first (suc s.k) c)) cast ∙ down)

-- the lesser of two signed numbers has the lesser place
offset_order : (w : Width) (a b : ℤ) → FitsSigned w a → FitsSigned w b → a <ℤ b → offset w a < offset w b
unfolding offset
offset_order w (pos m) (pos n) p q h = omega (arith, ltb_yes h.lt)
offset_order w (pos m) (negsuc n) p q h = absurd h.lt
offset_order w (negsuc m) (pos n) p q h = omega (arith, p.sfits)
offset_order w (negsuc m) (negsuc n) p q h = omega (arith, ltb_yes h.lt, p.sfits, q.sfits)

-- a signed number's place is within the unsigned bounds
offset_within : (w : Width) (z : ℤ) → FitsSigned w z → offset w z < 256 ^ byte_len w
unfolding offset
offset_within w (pos m) p = let s = parts w in omega (arith, p.sfits, s.bytes)
offset_within w (negsuc m) p = let s = parts w in omega (arith, p.sfits, s.bytes)

-- ascending encodings are in the order of the signed numbers
ascending_order : (w : Width) → KeepsAscendingOrder w
ascending_order w = record {
  precedes = λ a b p q h.
      (let keyed = (unsigned_order w).precedes (offset w a) (offset w b) (offset_order w a b p q h) (offset_within w b q) in
      let x = sym (offset_bytes w a p) in let y = sym (offset_bytes w b q) in
      subst (λ l. Precedes (nibbles l) (nibbles (turned_bytes (signed_bytes w b)))) x (subst (λ l. Precedes (unsigned_key w (offset w a)) (nibbles l)) y keyed));
}

-- the same of keys, by their bytes and their numbers
-- keys that are read as signed numbers have ascending encodings in the numbers' order
pub keys_rise : {X : Type 0} (w : Width) (bytes : X → List ℕ) (number : X → ℤ) (ok : X → Type 0) → ((x : X) → ok x → FitsSigned w (number x)) → ((x : X) → ok x → bytes x ≡ signed_bytes w (number x))
    → (x y : X) → ok x → ok y → number x <ℤ number y → Precedes (nibbles (turned_bytes (bytes x))) (nibbles (turned_bytes (bytes y)))
keys_rise w bytes number ok within two x y p q h =
    subst (λ l. Precedes (nibbles (turned_bytes l)) (nibbles (turned_bytes (bytes y)))) (sym (two x p))
    (subst (λ l. Precedes (ascending_key w (number x)) (nibbles (turned_bytes l))) (sym (two y q)) ((ascending_order w).precedes (number x) (number y) (within x p) (within y q) h))
