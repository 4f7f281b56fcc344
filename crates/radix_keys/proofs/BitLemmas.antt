-- Lists of bits: those of bytes and of numbers, which of them begin with which, and their order.
use Rattle.std.proofs.Common.{◌≡◌, ◌↔◌, ℕ, zero, suc, ◌+◌, ◌-◌, ◌*◌, ◌/◌, ◌%◌, ◌^◌, ◌<◌, ◌≤◌, List, [], ◌∷◌, ◌++◌, inl, inr, length, min, get_or, take, drop, refl, arith, sym, ap, subst, ◌∙◌, lit<, append_assoc, All}
use Rattle.std.proofs.Math.Nat.{mod-eq_of_lt, mod-lt, pow-succ'}
use Rattle.std.proofs.lemmas.Grind.{flat_map-append}
use Rattle.std.proofs.lemmas.List.{get_or-take, length-take, length-take-le, take-append-drop, take-take, take_all, take_at, take_more}
use Rattle.std.proofs.lemmas.Nat.{pow_pos, pow-add, shl-shr, shl_whole, shr-shr}
use Rattle.std.specs.Int.{byte_at, bytes_high_first}
use Rattle.nibble_map.specs.Lists.{IsPrefix}
use Rattle.radix_keys.specs.Bits.{bits_high_first, bits_of, first_bits}
use Rattle.radix_keys.specs.FirstBits.{highest_bit, length-bits_high_first, take-bits_high_first, bits_high_first-injective, first_bits-quotient, first_bits-small}
use Rattle.radix_keys.specs.Distinct.{byte_at-is, append-split}
use Rattle.radix_keys.specs.Order.{Precedes}
use Rattle.radix_keys.specs.NetworkOrder.{KeepsNetworkOrder}
use Rattle.radix_keys.proofs.KeyLemmas.Order.{digits_order, before-head, before-tail}

-- bytes have eight times as many bits
pub length-bits_of : (bytes : List ℕ) → length (bits_of bytes) ≡ 8 * length bytes
length-bits_of [] = refl
length-bits_of (b ∷ bytes) = omega (arith, length-bits_of bytes)

-- a bit of bytes is that of the byte which it is in
pub get_or-bits_of : (bytes : List ℕ) (i : ℕ) → i < 8 * length bytes
    → get_or (bits_of bytes) i 0 ≡ get_or bytes (i / 8) 0 / 2 ^ (7 - i % 8) % 2
get_or-bits_of [] i lt = absurd (omega (arith, lt))
get_or-bits_of (b ∷ bytes) zero lt = refl
get_or-bits_of (b ∷ bytes) (suc zero) lt = refl
get_or-bits_of (b ∷ bytes) (suc (suc zero)) lt = refl
get_or-bits_of (b ∷ bytes) (suc (suc (suc zero))) lt = refl
get_or-bits_of (b ∷ bytes) (suc (suc (suc (suc zero)))) lt = refl
get_or-bits_of (b ∷ bytes) (suc (suc (suc (suc (suc zero))))) lt = refl
get_or-bits_of (b ∷ bytes) (suc (suc (suc (suc (suc (suc zero)))))) lt = refl
get_or-bits_of (b ∷ bytes) (suc (suc (suc (suc (suc (suc (suc zero))))))) lt = refl
get_or-bits_of (b ∷ bytes) (suc (suc (suc (suc (suc (suc (suc (suc i)))))))) lt =
    let j = suc (suc (suc (suc (suc (suc (suc (suc i))))))) in
    let quotient : suc (i / 8) ≡ j / 8 = omega arith in
    let rest : i % 8 ≡ j % 8 = omega arith in
    get_or-bits_of bytes i (omega (arith, lt))
    ∙ ap (λ r. get_or bytes (i / 8) 0 / 2 ^ (7 - r) % 2) rest
    ∙ ap (λ q. get_or (b ∷ bytes) q 0 / 2 ^ (7 - j % 8) % 2) quotient

-- a bit of a number's bits
pub get_or-bits_high_first : (w n i : ℕ) → i < w → get_or (bits_high_first w n) i 0 ≡ n / 2 ^ (w - 1 - i) % 2
get_or-bits_high_first zero n i lt = absurd (omega (arith, lt))
get_or-bits_high_first (suc w) n zero lt =
    let place : w ≡ suc w - 1 - 0 = omega arith in
    ap (λ p. n / 2 ^ p % 2) place
get_or-bits_high_first (suc w) n (suc i) lt =
    let place : w - 1 - i ≡ suc w - 1 - suc i = omega (arith, lt) in
    get_or-bits_high_first w n i (omega (arith, lt)) ∙ ap (λ p. n / 2 ^ p % 2) place

-- a power of 256 is one of 2
pow_256 : (k : ℕ) → 256 ^ k ≡ 2 ^ (8 * k)
pow_256 zero = refl
pow_256 (suc k) =
    let more : 8 + 8 * k ≡ 8 * suc k = omega arith in
    pow-succ' 256 k ∙ ap (λ p. 256 * p) (pow_256 k) ∙ sym (pow-add 2 8 (8 * k)) ∙ ap (λ e. 2 ^ e) more

-- the lowest eight bits of a number are those of its lowest byte
byte_bit : (m j : ℕ) → j < 8 → m % 256 / 2 ^ j % 2 ≡ m / 2 ^ j % 2
byte_bit m zero lt = omega arith
byte_bit m (suc zero) lt = omega arith
byte_bit m (suc (suc zero)) lt = omega arith
byte_bit m (suc (suc (suc zero))) lt = omega arith
byte_bit m (suc (suc (suc (suc zero)))) lt = omega arith
byte_bit m (suc (suc (suc (suc (suc zero))))) lt = omega arith
byte_bit m (suc (suc (suc (suc (suc (suc zero)))))) lt = omega arith
byte_bit m (suc (suc (suc (suc (suc (suc (suc zero))))))) lt = omega arith
byte_bit m (suc (suc (suc (suc (suc (suc (suc (suc j)))))))) lt = absurd (omega (arith, lt))

-- a bit of a number's first ones
pub first_bits-bit : (w n k i : ℕ) → i < k → i < w → get_or (first_bits w n k) i 0 ≡ n / 2 ^ (w - 1 - i) % 2
first_bits-bit w n k i lt within = get_or-take k (bits_high_first w n) i 0 lt ∙ get_or-bits_high_first w n i within

-- a number has as many first bits as are asked for, up to its width
pub length-first_bits : (w n k : ℕ) → length (first_bits w n k) ≡ min k w
length-first_bits w n k = length-take k (bits_high_first w n) ∙ ap (min k) (length-bits_high_first w n)

-- a bit of the byte at k is one of the eight that k bytes follow
bit_of_byte : (k n j place : ℕ) → j < 8 → 8 * k + j ≡ place → byte_at k n / 2 ^ j % 2 ≡ n / 2 ^ place % 2
bit_of_byte k n j place lt e =
    ap (λ t. t / 2 ^ j % 2) (byte_at-is k n ∙ ap (λ p. n / p % 256) (pow_256 k))
    ∙ byte_bit (n / 2 ^ (8 * k)) j lt
    ∙ ap (λ t. t % 2) (shr-shr n (8 * k) j ∙ ap (λ e. n / 2 ^ e) e)

-- the bits of a number's bytes are the number's
pub bits_of-bytes_high_first : (k n : ℕ) → bits_of (bytes_high_first k n) ≡ bits_high_first (8 * k) n
bits_of-bytes_high_first zero n = refl
bits_of-bytes_high_first (suc k) n =
    let p0 = 8 * k in
    let p1 = suc p0 in
    let p2 = suc p1 in
    let p3 = suc p2 in
    let p4 = suc p3 in
    let p5 = suc p4 in
    let p6 = suc p5 in
    let p7 = suc p6 in
    let more : suc p7 ≡ 8 * suc k = omega arith in
    let b0 = bit_of_byte k n 0 p0 (lit< tt) (omega arith) in
    let b1 = bit_of_byte k n 1 p1 (lit< tt) (omega arith) in
    let b2 = bit_of_byte k n 2 p2 (lit< tt) (omega arith) in
    let b3 = bit_of_byte k n 3 p3 (lit< tt) (omega arith) in
    let b4 = bit_of_byte k n 4 p4 (lit< tt) (omega arith) in
    let b5 = bit_of_byte k n 5 p5 (lit< tt) (omega arith) in
    let b6 = bit_of_byte k n 6 p6 (lit< tt) (omega arith) in
    let b7 = bit_of_byte k n 7 p7 (lit< tt) (omega arith) in
    let rest = bits_of-bytes_high_first k n in
    let eight : bits_of (bytes_high_first (suc k) n) ≡ bits_high_first (suc p7) n =
    λ i. b7 i ∷ b6 i ∷ b5 i ∷ b4 i ∷ b3 i ∷ b2 i ∷ b1 i ∷ b0 i ∷ rest i in
    eight ∙ ap (λ w. bits_high_first w n) more

-- a list is a prefix of what begins with it
prefix_of_take : (m : ℕ) (p q : List ℕ) → take m q ≡ p → IsPrefix p q
prefix_of_take m p q e = (drop m q, sym (take-append-drop m q) ∙ ap (λ t. t ++ drop m q) e)

-- what has a prefix begins with it
take_of_prefix : (m : ℕ) (p q : List ℕ) → length p ≡ m → IsPrefix p q → take m q ≡ p
take_of_prefix m p q l h = ap (take m) h.1 ∙ take_at p h.0 m l

module _ (w a b m n : ℕ) (fits_a : a < 2 ^ w) (fits_b : b < 2 ^ w) (le : m ≤ n) (within : n ≤ w) where
  -- the first m bits are those of the quotient by what the others count for
  first : (x : ℕ) → first_bits w x m ≡ bits_high_first m (x / 2 ^ (w - m))
  first x = first_bits-quotient w m x (omega (arith, le, within))

  -- there are m of them
  count : length (first_bits w a m) ≡ m
  count = length-take-le m (bits_high_first w a) (omega (arith, length-bits_high_first w a, le, within))

  -- of the first n bits the first m are the first m of all
  shorter : take m (first_bits w b n) ≡ first_bits w b m
  shorter = take-take m n (bits_high_first w b) le

  -- one number's first bits begin with another's exactly where the quotients are equal
  pub first_bits_prefix : IsPrefix (first_bits w a m) (first_bits w b n) ↔ (a / 2 ^ (w - m) ≡ b / 2 ^ (w - m))
  first_bits_prefix = (
    λ h. bits_high_first-injective m (a / 2 ^ (w - m)) (b / 2 ^ (w - m)) (first_bits-small w m a (omega (arith, le, within)) fits_a) (first_bits-small w m b (omega (arith, le, within)) fits_b)
        (sym (first a) ∙ sym (take_of_prefix m (first_bits w a m) (first_bits w b n) count h) ∙ shorter ∙ first b),
    λ e. prefix_of_take m (first_bits w a m) (first_bits w b n)
        (shorter ∙ first b ∙ ap (bits_high_first m) (sym e) ∙ sym (first a)),
  )

-- where the bits begin with those of other bytes, the bytes do
bytes_begin : (a b : List ℕ) → All (λ x. x < 256) a → All (λ x. x < 256) b
    → IsPrefix (bits_of a) (bits_of b) → IsPrefix a b
bytes_begin [] b p q h = (b, refl)
bytes_begin (x ∷ a) [] p q h = absurd (omega (arith, ap length h.1))
bytes_begin (x ∷ a) (y ∷ b) p q h =
    let same_length : length (bits_high_first 8 y) ≡ length (bits_high_first 8 x) = refl in
    let parts = append-split (bits_high_first 8 y) (bits_high_first 8 x) (bits_of b) (bits_of a ++ h.0) same_length
    (h.1 ∙ append_assoc (bits_high_first 8 x) (bits_of a) h.0) in
    let same : y ≡ x = bits_high_first-injective 8 y x (q 0 y (omega arith)) (p 0 x (omega arith)) parts.0 in
    let begun = bytes_begin a b (λ k d l. p (suc k) d (omega (arith, l))) (λ k d l. q (suc k) d (omega (arith, l))) (h.0, parts.1) in
    let tail = begun.1 in
    (begun.0, λ i. same i ∷ tail i)

-- bits begin with those of other bytes exactly where the bytes do
pub bits_prefix : (a b : List ℕ) → All (λ x. x < 256) a → All (λ x. x < 256) b
    → IsPrefix (bits_of a) (bits_of b) ↔ IsPrefix a b
bits_prefix a b p q = (
  bytes_begin a b p q,
  λ h. (bits_of h.0, ap bits_of h.1 ∙ flat_map-append (bits_high_first 8) a h.0),
)

-- a beginning is no longer than the list
pub length-take-most : (k : ℕ) (xs : List ℕ) → length (take k xs) ≤ length xs
length-take-most zero xs = omega arith
length-take-most (suc k) [] = omega arith
length-take-most (suc k) (x ∷ xs) = omega (arith, length-take-most k xs)

-- the first eight times as many bits are those of the first bytes
pub take-bits_of : (k : ℕ) (bytes : List ℕ) → take (8 * k) (bits_of bytes) ≡ bits_of (take k bytes)
take-bits_of zero bytes = refl
take-bits_of (suc k) [] = take_all (8 * suc k) [] (omega arith)
take-bits_of (suc k) (b ∷ bytes) =
    let more : 8 * suc k ≡ suc (suc (suc (suc (suc (suc (suc (suc (8 * k)))))))) = omega arith in
    ap (λ w. take w (bits_of (b ∷ bytes))) more ∙ ap (λ t. bits_high_first 8 b ++ t) (take-bits_of k bytes)

-- the bits of one byte more
pub next_byte : (bytes : List ℕ) (k : ℕ) → k < length bytes
    → bits_of (take (k + 1) bytes) ≡ bits_of (take k bytes) ++ bits_high_first 8 (get_or bytes k 0)
next_byte bytes k lt = ap bits_of (take_more bytes k 0 lt) ∙ flat_map-append (bits_high_first 8) (take k bytes) (get_or bytes k 0 ∷ [])

-- one bit more
pub next_bit : (bytes : List ℕ) (i : ℕ) → i / 8 < length bytes
    → take (i + 1) (bits_of bytes) ≡ take i (bits_of bytes) ++ (get_or bytes (i / 8) 0 / 2 ^ (7 - i % 8) % 2) ∷ []
next_bit bytes i lt =
    take_more (bits_of bytes) i 0 (omega (arith, length-bits_of bytes, lt))
    ∙ ap (λ b. take i (bits_of bytes) ++ b ∷ []) (get_or-bits_of bytes i (omega (arith, lt)))

-- there are fewer than 32 of them where one bit more is short
pub few_bits : (bytes : List ℕ) (i count : ℕ) → i / 8 < length bytes → i < count
    → length (take count (bits_of bytes)) ≤ 32 → length (take i (bits_of bytes)) < 32
few_bits bytes i count lt below short =
    let bits = bits_of bytes in
    let fits : i + 1 ≤ length bits = omega (arith, length-bits_of bytes, lt) in
    omega (
      arith,
      short,
      length-take-le i bits (omega (arith, fits)),
      length-take-le (i + 1) bits fits,
      ap length (take-take (i + 1) count bits (omega (arith, below))),
      length-take-most (i + 1) (take count bits),
    )

-- the first bits of a number of w bits are those of the number that begins 128 bits with it
pub aligned : (w n k : ℕ) → w ≤ 128 → n < 2 ^ w → k ≤ w → first_bits 128 (n * 2 ^ (128 - w) % 2 ^ 128) k ≡ first_bits w n k
aligned w n k narrow fits le =
    let d = 128 - w in
    let m = n * 2 ^ d in
    let whole : 128 ≡ w + d = omega (arith, narrow) in
    ap (λ x. first_bits 128 x k) (shl_whole n w d 128 fits (omega (arith, narrow)))
    ∙ sym (take-take k w (bits_high_first 128 m) le)
    ∙ ap (take k) (ap (λ u. take w (bits_high_first u m)) whole ∙ take-bits_high_first w d m ∙ ap (bits_high_first w) (shl-shr n d))

-- of two numbers the lesser one's bits come first, where the other has no bit after those that are taken
lesser_bits : (w m n k j : ℕ) → m % 2 ^ w < n % 2 ^ w → n % 2 ^ (w - j) ≡ 0 → Precedes (first_bits w m k) (first_bits w n j)
lesser_bits zero m n k j lt none = absurd (omega arith)
lesser_bits (suc w) m n k zero lt none =
    let whole : suc w - 0 ≡ suc w = omega arith in
    let all : n % 2 ^ suc w ≡ 0 = subst (λ e. n % 2 ^ e ≡ 0) whole none in
    absurd (omega (arith, lt, all))
lesser_bits (suc w) m n zero (suc j) lt none = refl
lesser_bits (suc w) m n (suc k) (suc j) lt none =
    let rest : suc w - suc j ≡ w - j = omega arith in
    elim (digits_order (2 ^ w) (m / 2 ^ w % 2) (n / 2 ^ w % 2) (m % 2 ^ w) (n % 2 ^ w) (mod-lt m (pow_pos w)) (mod-lt n (pow_pos w))
    (omega (arith, lt, highest_bit w m, highest_bit w n))) [
      | inl high ↦ before-head (m / 2 ^ w % 2) (n / 2 ^ w % 2) (first_bits w m k) (first_bits w n j) high
      | inr p ↦ before-tail (m / 2 ^ w % 2) (n / 2 ^ w % 2) (first_bits w m k) (first_bits w n j) p.0 (lesser_bits w m n k j p.1 (subst (λ e. n % 2 ^ e ≡ 0) rest none))
    ]

-- fewer items of a list come before more of them
fewer_first : (k j : ℕ) (xs : List ℕ) → k < j → j ≤ length xs → Precedes (take k xs) (take j xs)
fewer_first k j [] lt le = absurd (omega (arith, lt, le))
fewer_first k zero (x ∷ xs) lt le = absurd (omega (arith, lt))
fewer_first zero (suc j) (x ∷ xs) lt le = refl
fewer_first (suc k) (suc j) (x ∷ xs) lt le = before-tail x x (take k xs) (take j xs) refl (fewer_first k j xs (omega arith) (omega arith))

-- the encodings of networks are in the order of their bases, and then of their bits
pub network_order : (w : ℕ) → KeepsNetworkOrder w
network_order w = record {
  by_base = λ m k n j p q lt. lesser_bits w m n k j (omega (arith, lt, mod-eq_of_lt {n = m} {m = 2 ^ w} p.0, mod-eq_of_lt {n = n} {m = 2 ^ w} q.0)) q.2;
  by_bits = λ m k j lt le. fewer_first k j (bits_high_first w m) lt (omega (arith, le, length-bits_high_first w m));
}
