-- Encodings keep the order of keys.
use Rattle.std.proofs.Common.{◌≡◌, ◌⊎◌, inl, inr, ℕ, zero, suc, ◌+◌, ◌*◌, ◌/◌, ◌%◌, ◌^◌, ◌<◌, ◌≤◌, List, [], ◌∷◌, ◌++◌, length, ℤ, pos, negsuc, FitsSigned, refl, arith, sym, ap, ◌∙◌, subst, lit≤}
use Rattle.std.proofs.Math.Nat.{mul-le-mul_right, suc-mul, mod-lt, mod-eq_of_lt}
use Rattle.std.specs.Cmp.{nat_cmp_is}
use Rattle.std.specs.Int.{Width, w8, w16, w32, w64, w128, byte_len, byte_at, bytes_high_first, to_be_bytes, cast_unsigned}
use Rattle.std.specs.declared.cmp.Ordering.TheVariants.{Less, Equal, Greater}
use Rattle.nibble_map.specs.Nibbles.{nibbles}
use Rattle.radix_keys.specs.Distinct.{pow-256-pos, digits-suc, cast_unsigned-below}
use Rattle.radix_keys.specs.Integers.{unsigned_key}
use Rattle.radix_keys.specs.Order.{Precedes, SignedPrecedes, KeepsByteOrder, KeepsUnsignedOrder, KeepsSignedOrder, KeepsPairOrder}
use mir.Val.{bits, hbits}

-- which of two numbers is the greater
-- of two numbers one is the lesser, or they are equal
pub three_ways : (x y : ℕ) → (x < y) ⊎ ((x ≡ y) ⊎ (y < x))
three_ways zero zero = inr (inl refl)
three_ways zero (suc y) = inl (omega arith)
three_ways (suc x) zero = inr (inr (omega arith))
three_ways (suc x) (suc y) = elim (three_ways x y) [
  | inl lt ↦ inl (omega arith)
  | inr (inl same) ↦ inr (inl (ap suc same))
  | inr (inr gt) ↦ inr (inr (omega arith))
]

-- a list with a lesser first item comes first
pub before-head : (x y : ℕ) (xs ys : List ℕ) → x < y → Precedes (x ∷ xs) (y ∷ ys)
before-head x y xs ys lt = rw (sym (nat_cmp_is x y Less lt)) refl

-- of two lists with equal first items, that comes first whose rest does
pub before-tail : (x y : ℕ) (xs ys : List ℕ) → x ≡ y → Precedes xs ys → Precedes (x ∷ xs) (y ∷ ys)
before-tail x y xs ys e lt = rw (sym (nat_cmp_is x y Equal e)) lt

-- of two lists of bytes, that comes first in nibbles which comes first in bytes
nibbles_order : (xs ys : List ℕ) → Precedes xs ys → Precedes (nibbles xs) (nibbles ys)
nibbles_order [] [] h = cc
nibbles_order [] (y ∷ ys) h = refl
nibbles_order (x ∷ xs) [] h = cc
nibbles_order (x ∷ xs) (y ∷ ys) h =
    let a = (x % 16) ∷ nibbles xs in
    let b = (y % 16) ∷ nibbles ys in
    elim (three_ways x y) [
      | inl lt ↦ elim (three_ways (x / 16) (y / 16)) [
        | inl high ↦ before-head (x / 16) (y / 16) a b high
        | inr (inl same) ↦ before-tail (x / 16) (y / 16) a b same (before-head (x % 16) (y % 16) (nibbles xs) (nibbles ys) (omega arith))
        | inr (inr high) ↦ absurd (omega arith)
      ]
      | inr (inl same) ↦
          let rest : Precedes xs ys = rw (sym (nat_cmp_is x y Equal same)) at h in
          before-tail (x / 16) (y / 16) a b (ap (λ t. t / 16) same)
          (before-tail (x % 16) (y % 16) (nibbles xs) (nibbles ys) (ap (λ t. t % 16) same) (nibbles_order xs ys rest))
      | inr (inr gt) ↦ let wrong : Greater ≡ Less = rw (sym (nat_cmp_is x y Greater gt)) at h in cc
    ]

-- two numbers in base P differ first in the high digit, or in what is below it
pub digits_order : (P a b r s : ℕ) → r < P → s < P → a * P + r < b * P + s → (a < b) ⊎ ((a ≡ b) × (r < s))
digits_order P a b r s p q h = elim (three_ways a b) [
  | inl lt ↦ inl lt
  | inr (inl same) ↦ let e = ap (λ t. t * P) same in inr (same, omega arith)
  | inr (inr gt) ↦ let m : suc b * P ≤ a * P = mul-le-mul_right P gt in absurd (omega (arith, m, suc-mul b P))
]

-- of two numbers below 256 ^ k, the lesser one's k bytes come first
bytes_order : (k m n : ℕ) → m % 256 ^ k < n % 256 ^ k → Precedes (bytes_high_first k m) (bytes_high_first k n)
bytes_order zero m n h = absurd (omega arith)
bytes_order (suc k) m n h =
    elim (digits_order (256 ^ k) (byte_at k m) (byte_at k n) (m % 256 ^ k) (n % 256 ^ k) (mod-lt m (pow-256-pos k)) (mod-lt n (pow-256-pos k))
    (omega (arith, digits-suc k m, digits-suc k n))) [
      | inl lt ↦ before-head (byte_at k m) (byte_at k n) (bytes_high_first k m) (bytes_high_first k n) lt
      | inr p ↦ before-tail (byte_at k m) (byte_at k n) (bytes_high_first k m) (bytes_high_first k n) p.0 (bytes_order k m n p.1)
    ]

-- the encodings of byte lists are in the order of the lists
pub byte_order : KeepsByteOrder
byte_order = record { precedes = nibbles_order }

-- of two numbers within the bounds, the lesser one's encoding comes first
number_order : (w : Width) (m n : ℕ) → m < n → n < 256 ^ byte_len w → Precedes (unsigned_key w m) (unsigned_key w n)
number_order w m n lt below =
    nibbles_order (to_be_bytes w m) (to_be_bytes w n) (bytes_order (byte_len w) m n
    (omega (arith, mod-eq_of_lt {n = m} {m = 256 ^ byte_len w} (omega arith), mod-eq_of_lt {n = n} {m = 256 ^ byte_len w} below)))

-- the encodings of unsigned numbers are in the order of the numbers
pub unsigned_order : (w : Width) → KeepsUnsignedOrder w
unsigned_order w = record { precedes = number_order w }

-- the bounds of a signed number are half of those of an unsigned one
half_bounds : (w : Width) → 2 * 2 ^ hbits w ≤ 2 ^ bits w
half_bounds w8 = lit≤ tt
half_bounds w16 = lit≤ tt
half_bounds w32 = lit≤ tt
half_bounds w64 = lit≤ tt
half_bounds w128 = lit≤ tt

-- in two's complement, signed numbers are in the order of signed keys
cast_order : (w : Width) (x y : ℤ) → FitsSigned w x → FitsSigned w y → SignedPrecedes x y → cast_unsigned w x < cast_unsigned w y
cast_order w (pos m) (pos n) p q h = h
cast_order w (pos m) (negsuc n) p q h = omega (arith, half_bounds w, p.sfits, q.sfits)
cast_order w (negsuc m) (pos n) p q h = absurd h
cast_order w (negsuc m) (negsuc n) p q h = omega (arith, half_bounds w, p.sfits, q.sfits)

-- the bytes of a width hold as many numbers as its bits
whole_bytes : (w : Width) → 256 ^ byte_len w ≡ 2 ^ bits w
whole_bytes w8 = refl
whole_bytes w16 = refl
whole_bytes w32 = refl
whole_bytes w64 = refl
whole_bytes w128 = refl

-- the encodings of signed numbers rise from 0 up, and then from the least up
pub signed_order : (w : Width) → KeepsSignedOrder w
signed_order w = record {
  precedes = λ x y p q h. number_order w (cast_unsigned w x) (cast_unsigned w y) (cast_order w x y p q h) (cast_unsigned-below w y (whole_bytes w) q);
}

-- lists of one length keep their order where others follow them
append_order : (xs ys us vs : List ℕ) → length xs ≡ length ys → Precedes xs ys → Precedes (xs ++ us) (ys ++ vs)
append_order [] [] us vs n h = cc
append_order [] (y ∷ ys) us vs n h = absurd (omega arith)
append_order (x ∷ xs) [] us vs n h = cc
append_order (x ∷ xs) (y ∷ ys) us vs n h = elim (three_ways x y) [
  | inl lt ↦ before-head x y (xs ++ us) (ys ++ vs) lt
  | inr (inl same) ↦
      let rest : Precedes xs ys = rw (sym (nat_cmp_is x y Equal same)) at h in
      before-tail x y (xs ++ us) (ys ++ vs) same (append_order xs ys us vs (omega arith) rest)
  | inr (inr gt) ↦ let wrong : Greater ≡ Less = rw (sym (nat_cmp_is x y Greater gt)) at h in cc
]

-- what follows one list keeps its order
prepend_order : (xs us vs : List ℕ) → Precedes us vs → Precedes (xs ++ us) (xs ++ vs)
prepend_order [] us vs h = h
prepend_order (x ∷ xs) us vs h = before-tail x x (xs ++ us) (xs ++ vs) refl (prepend_order xs us vs h)

-- where all encodings of first keys have one length, pairs of keys are in the order of their parts
pub pair_order : {A B : Type 0} (first : A → List ℕ) (second : B → List ℕ) (is_first : A → Type 0) (count : ℕ)
    → ((a : A) → is_first a → length (first a) ≡ count) → KeepsPairOrder first second is_first
pair_order first second is_first count width = record {
  by_first = λ a b c d p q h. append_order (first a) (first b) (second c) (second d) (width a p ∙ sym (width b q)) h;
  by_second = λ a b c d e h. subst (λ t. Precedes (first a ++ second c) (t ++ second d)) e (prepend_order (first a) (second c) (second d) h);
}
