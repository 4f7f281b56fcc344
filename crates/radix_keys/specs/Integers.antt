-- Integers as keys.
use Rattle.std.specs.Prelude.{ℕ, ℤ, List}
use Rattle.std.specs.Int.{Width, to_be_bytes, cast_unsigned}
use Rattle.nibble_map.specs.Nibbles.{nibbles}

-- the bytes of a signed number in two's complement, the highest first
abbrev pub signed_bytes : Width → ℤ → List ℕ
signed_bytes w z = to_be_bytes w (cast_unsigned w z)

-- the encodings of numbers of so many bits: their bytes, the highest first
abbrev pub unsigned_key : Width → ℕ → List ℕ
unsigned_key w n = nibbles (to_be_bytes w n)

abbrev pub signed_key : Width → ℤ → List ℕ
signed_key w z = nibbles (signed_bytes w z)
