-- Signed keys in ascending order.
use Rattle.std.proofs.Common.{refl, ap, sym, ◌∙◌}
use Rattle.std.specs.Int.{Width}
use Rattle.std.specs.Int.Bits.{bit_xor, xor_assoc, xor_self, xor_zero_r}
use Rattle.std.specs.Prelude.{ℕ, ℤ, ◌≡◌, ◌<ℤ◌, List, [], ◌∷◌, FitsSigned}
use Rattle.nibble_map.specs.Nibbles.{nibbles}
use Rattle.radix_keys.specs.Integers.{signed_bytes}
use Rattle.radix_keys.specs.Order.{Precedes}

-- bytes with the highest bit of the first one turned over
abbrev pub turned_bytes : List ℕ → List ℕ
turned_bytes [] = []
turned_bytes (x ∷ xs) = bit_xor x 128 ∷ xs

-- the encoding of a number of so many bits as a key in ascending order
abbrev pub ascending_key : Width → ℤ → List ℕ
ascending_key w z = nibbles (turned_bytes (signed_bytes w z))

-- of two numbers within the type's bounds the smaller has the smaller encoding
pub record KeepsAscendingOrder (w : Width) : Type 0 where
  pub precedes : (a b : ℤ) → FitsSigned w a → FitsSigned w b → a <ℤ b
      → Precedes (ascending_key w a) (ascending_key w b)

pub turned_bytes-injective : (a b : List ℕ) → turned_bytes a ≡ turned_bytes b → a ≡ b
turned_bytes-injective [] [] e = refl
turned_bytes-injective [] (y ∷ b) e = cc
turned_bytes-injective (x ∷ a) [] e = cc
turned_bytes-injective (x ∷ a) (y ∷ b) e =
    let head : bit_xor x 128 ≡ bit_xor y 128 = cc in
    let tail : a ≡ b = cc in
    let same : x ≡ y = back x ∙ ap (λ t. bit_xor t 128) head ∙ sym (back y) in
    λ i. same i ∷ tail i
  where
    back : (x : ℕ) → x ≡ bit_xor (bit_xor x 128) 128
    back x = sym (xor_assoc x 128 128 ∙ ap (bit_xor x) (xor_self 128) ∙ xor_zero_r x)
