-- How long encodings are.
use Rattle.std.specs.Prelude.{◌≡◌, ℕ, ◌*◌, List, [], ◌∷◌, length, refl}
use Rattle.std.proofs.Common.{arith}
use Rattle.nibble_map.specs.Nibbles.{nibbles}
use Rattle.radix_keys.specs.AscendingKeys.{turned_bytes}

-- bytes have twice as many nibbles
pub length-nibbles : (bytes : List ℕ) → length (nibbles bytes) ≡ 2 * length bytes
length-nibbles [] = refl
length-nibbles (b ∷ bytes) = omega (arith, length-nibbles bytes)

pub length-turned_bytes : (bytes : List ℕ) → length (turned_bytes bytes) ≡ length bytes
length-turned_bytes [] = refl
length-turned_bytes (x ∷ xs) = refl
