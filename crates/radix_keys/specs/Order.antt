-- The order of encodings.
use Rattle.std.specs.Cmp.Lexicographic.{slice_cmp}
use Rattle.std.specs.Int.{Width, byte_len}
use Rattle.std.specs.Ordering.{nat_cmp}
use Rattle.std.specs.declared.cmp.Ordering.TheVariants.{Less}
use Rattle.std.specs.Prelude.{◌≡◌, ◌^◌, ◌<◌, ◌++◌, ℕ, ℤ, pos, negsuc, List, FitsSigned}
use Rattle.nibble_map.specs.Nibbles.{nibbles}
use Rattle.radix_keys.specs.Integers.{unsigned_key, signed_key}

-- the order of lists: the first place at which they differ decides, and a prefix comes first
abbrev pub Precedes : List ℕ → List ℕ → Type 0
Precedes xs ys = slice_cmp nat_cmp xs ys ≡ Less

-- the order of signed keys: from 0 upward, and then the negative ones, upward
abbrev pub SignedPrecedes : ℤ → ℤ → Type 0
SignedPrecedes (pos m) (pos n) = m < n
SignedPrecedes (pos m) (negsuc n) = Unit {0}
SignedPrecedes (negsuc m) (pos n) = ⊥
SignedPrecedes (negsuc m) (negsuc n) = n < m

-- of two lists of bytes the smaller has the smaller encoding
pub record KeepsByteOrder : Type 0 where
  pub precedes : (a b : List ℕ) → Precedes a b → Precedes (nibbles a) (nibbles b)

-- of two numbers within the type's bounds the smaller has the smaller encoding
pub record KeepsUnsignedOrder (w : Width) : Type 0 where
  pub precedes : (a b : ℕ) → a < b → b < 256 ^ byte_len w
      → Precedes (unsigned_key w a) (unsigned_key w b)

-- of two signed numbers within the type's bounds the one that comes first has the smaller encoding
pub record KeepsSignedOrder (w : Width) : Type 0 where
  pub precedes : (a b : ℤ) → FitsSigned w a → FitsSigned w b → SignedPrecedes a b
      → Precedes (signed_key w a) (signed_key w b)

-- Of two pairs of keys the one whose first key has the smaller encoding has the smaller encoding,
-- and where the first keys have one encoding, the one whose second key has.
pub record KeepsPairOrder {A B : Type 0} (first : A → List ℕ) (second : B → List ℕ)
    (is_first : A → Type 0) : Type 0 where
  pub by_first : (a b : A) (c d : B) → is_first a → is_first b → Precedes (first a) (first b)
      → Precedes (first a ++ second c) (first b ++ second d)
  pub by_second : (a b : A) (c d : B) → first a ≡ first b → Precedes (second c) (second d)
      → Precedes (first a ++ second c) (first b ++ second d)
