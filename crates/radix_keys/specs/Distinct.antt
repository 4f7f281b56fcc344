-- Encodings tell keys apart.
use Rattle.std.specs.Prelude.{◌≡◌, ℕ, zero, suc, ◌+◌, ◌*◌, ◌/◌, ◌%◌, ◌^◌, ◌<◌, List, [], ◌∷◌, ◌++◌, length, reverse, flat_map, Bool, refl, true, false, ◌&&◌, ℤ, nat_eq, All, FitsSigned}
use Rattle.std.specs.Cmp.Lexicographic.{pointwise}
use Rattle.std.specs.Int.{Width, byte_len, byte_at, bytes_high_first, to_be_bytes, cast_unsigned, cast_signed, from_bool}
use Rattle.std.specs.Ordering.{int_eq}
use Rattle.std.proofs.Common.{arith, sym, ◌∙◌, ap}
use Rattle.std.proofs.Math.Arith.{mod-mul}
use Rattle.std.proofs.Math.Facts.{Fits-of_z, Fits-lt-pow}
use Rattle.std.proofs.Math.Nat.{pow-succ', mod-eq_of_lt}
use Rattle.std.proofs.lemmas.Bool.{eq-eqb}
use Rattle.std.proofs.lemmas.Bool.Decides.{Decides-int_eq}
use Rattle.std.proofs.lemmas.Int.{to_z-of_z}
use Rattle.std.proofs.lemmas.List.{length-append, reverse-reverse}
use Rattle.std.proofs.lemmas.Slice.Eq.{bytes_eq-Decides}
use Rattle.nibble_map.specs.Nibbles.{nibbles}
use Rattle.radix_keys.specs.Integers.{signed_bytes, unsigned_key, signed_key}
use mathlib.Core.Bool.{beq}
use mir.Val.{bits}

-- lists that begin by parts of one length are equal part by part
pub append-split : {X : Type 0} (a b s t : List X) → length a ≡ length b → a ++ s ≡ b ++ t
    → (a ≡ b) × (s ≡ t)
append-split [] [] s t n e = (refl, e)
append-split [] (y ∷ b) s t n e = absurd (omega arith)
append-split (x ∷ a) [] s t n e = absurd (omega arith)
append-split (x ∷ a) (y ∷ b) s t n e =
    let head : x ≡ y = cc in
    let tail : a ++ s ≡ b ++ t = cc in
    let parts = append-split a b s t (omega arith) tail in
    let first : x ∷ a ≡ y ∷ b = cc in
    (first, parts.1)

pub reverse-injective : (a b : List ℕ) → reverse a ≡ reverse b → a ≡ b
reverse-injective a b e = sym (reverse-reverse a) ∙ ap reverse e ∙ reverse-reverse b

pub nibbles-injective : (a b : List ℕ) → nibbles a ≡ nibbles b → a ≡ b
nibbles-injective [] [] e = refl
nibbles-injective [] (y ∷ b) e = cc
nibbles-injective (x ∷ a) [] e = cc
nibbles-injective (x ∷ a) (y ∷ b) e =
    let high : x / 16 ≡ y / 16 = cc in
    let low : x % 16 ≡ y % 16 = cc in
    let rest : nibbles a ≡ nibbles b = cc in
    let same : x ≡ y = omega arith in
    let tail : a ≡ b = nibbles-injective a b rest in
    cc

pub both-true : {a b : Bool} → a ≡ true → b ≡ true → (a && b) ≡ true
both-true p q = rw (p, q) refl

-- texts and byte lists
pub bytes-distinct : (x y : List ℕ) → nibbles x ≡ nibbles y → pointwise nat_eq x y ≡ true
bytes-distinct x y e = (bytes_eq-Decides x y).1 (nibbles-injective x y e)

-- the byte of a truth value tells it
pub bool-distinct : (x y : Bool) → nibbles (from_bool x ∷ []) ≡ nibbles (from_bool y ∷ []) → beq x y ≡ true
bool-distinct true true e = refl
bool-distinct false false e = refl
bool-distinct true false e = cc
bool-distinct false true e = cc

-- a number's bytes are its digits in base 256
pub byte_at-is : (k n : ℕ) → byte_at k n ≡ n / 256 ^ k % 256
byte_at-is zero n = let e : n / 1 ≡ n = omega arith in ap (λ t. t % 256) (sym e)
byte_at-is (suc k) n = refl

pub pow-256-pos : (k : ℕ) → 0 < 256 ^ k
pow-256-pos zero = omega arith
pow-256-pos (suc k) = rw (pow-succ' 256 k) (omega (arith, pow-256-pos k))

-- the lowest k + 1 digits are digit k and the k below it
pub digits-suc : (k n : ℕ) → n % 256 ^ suc k ≡ byte_at k n * 256 ^ k + n % 256 ^ k
digits-suc k n =
    ap (λ m. n % m) (pow-succ' 256 k)
    ∙ mod-mul n {m = 256} {c = 256 ^ k} (omega arith) (pow-256-pos k)
    ∙ ap (λ d. d * 256 ^ k + n % 256 ^ k) (sym (byte_at-is k n))

bytes_high_first-injective : (k m n : ℕ) → bytes_high_first k m ≡ bytes_high_first k n
    → m % 256 ^ k ≡ n % 256 ^ k
bytes_high_first-injective zero m n e = omega arith
bytes_high_first-injective (suc k) m n e =
    let head : byte_at k m ≡ byte_at k n = cc in
    let tail : bytes_high_first k m ≡ bytes_high_first k n = cc in
    digits-suc k m ∙ ap (λ d. d * 256 ^ k + m % 256 ^ k) head
    ∙ ap (λ r. byte_at k n * 256 ^ k + r) (bytes_high_first-injective k m n tail)
    ∙ sym (digits-suc k n)

to_be_bytes-injective : (w : Width) (m n : ℕ) → m < 256 ^ byte_len w → n < 256 ^ byte_len w
    → to_be_bytes w m ≡ to_be_bytes w n → m ≡ n
to_be_bytes-injective w m n p q e =
    sym (mod-eq_of_lt {n = m} {m = 256 ^ byte_len w} p)
    ∙ bytes_high_first-injective (byte_len w) m n e
    ∙ mod-eq_of_lt {n = n} {m = 256 ^ byte_len w} q

-- integers
pub unsigned-distinct : (w : Width) (m n : ℕ) → m < 256 ^ byte_len w → n < 256 ^ byte_len w
    → to_be_bytes w m ≡ to_be_bytes w n → nat_eq m n ≡ true
unsigned-distinct w m n p q e = eq-eqb m n (to_be_bytes-injective w m n p q e)

pub unsigned_key-distinct : (w : Width) (m n : ℕ) → m < 256 ^ byte_len w → n < 256 ^ byte_len w
    → unsigned_key w m ≡ unsigned_key w n → nat_eq m n ≡ true
unsigned_key-distinct w m n p q e =
    unsigned-distinct w m n p q (nibbles-injective (to_be_bytes w m) (to_be_bytes w n) e)

-- a signed number's bits are those of a number within the unsigned bounds
pub cast_unsigned-below : (w : Width) (z : ℤ) → 256 ^ byte_len w ≡ 2 ^ bits w → FitsSigned w z
    → cast_unsigned w z < 256 ^ byte_len w
cast_unsigned-below w z whole p = rw whole (Fits-lt-pow (Fits-of_z {w = w} {z = z} p))

pub signed-distinct : (w : Width) → 256 ^ byte_len w ≡ 2 ^ bits w → (x y : ℤ) → FitsSigned w x
    → FitsSigned w y → signed_bytes w x ≡ signed_bytes w y → int_eq x y ≡ true
signed-distinct w whole x y p q e =
    let same : cast_unsigned w x ≡ cast_unsigned w y =
    to_be_bytes-injective w (cast_unsigned w x) (cast_unsigned w y)
    (cast_unsigned-below w x whole p) (cast_unsigned-below w y whole q) e in
    (Decides-int_eq x y).1 (sym (to_z-of_z w x p) ∙ ap (cast_signed w) same ∙ to_z-of_z w y q)

pub signed_key-distinct : (w : Width) → 256 ^ byte_len w ≡ 2 ^ bits w → (x y : ℤ) → FitsSigned w x
    → FitsSigned w y → signed_key w x ≡ signed_key w y → int_eq x y ≡ true
signed_key-distinct w whole x y p q e =
    signed-distinct w whole x y p q (nibbles-injective (signed_bytes w x) (signed_bytes w y) e)

-- lists of items whose parts have one length and tell items apart
pub list-distinct : {X : Type 0} (f : X → List ℕ) (same : X → X → Bool) (Ok : X → Type 0) (n : ℕ)
    → 0 < n
    → ((x : X) → length (f x) ≡ n) → ((x y : X) → Ok x → Ok y → f x ≡ f y → same x y ≡ true)
    → (xs ys : List X) → All Ok xs → All Ok ys → nibbles (flat_map f xs) ≡ nibbles (flat_map f ys)
    → pointwise same xs ys ≡ true
list-distinct {X} f same Ok n pos len distinct xs ys p q e = go xs ys p q (nibbles-injective _ _ e)
  where
    go : (xs ys : List X) → All Ok xs → All Ok ys → flat_map f xs ≡ flat_map f ys
        → pointwise same xs ys ≡ true
    go [] [] p q e = refl
    go [] (y ∷ ys) p q e =
        absurd (omega (arith, ap length e, length-append (f y) (flat_map f ys), len y))
    go (x ∷ xs) [] p q e =
        absurd (omega (arith, ap length e, length-append (f x) (flat_map f xs), len x))
    go (x ∷ xs) (y ∷ ys) p q e =
        let parts = append-split (f x) (f y) (flat_map f xs) (flat_map f ys)
        (len x ∙ sym (len y)) e in
        let head : same x y ≡ true =
        distinct x y (p 0 x (omega arith)) (q 0 y (omega arith)) parts.0 in
        let tail : pointwise same xs ys ≡ true =
        go xs ys (λ k d h. p (suc k) d (omega arith)) (λ k d h. q (suc k) d (omega arith))
        parts.1 in
        rw (head, tail) refl
