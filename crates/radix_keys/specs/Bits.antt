-- Lists of bits.
use Rattle.std.specs.Prelude.{ℕ, zero, suc, ◌/◌, ◌%◌, ◌^◌, List, [], ◌∷◌, take, flat_map}

-- the lowest w bits of a number, the highest of them first
abbrev pub bits_high_first : ℕ → ℕ → List ℕ
bits_high_first zero n = []
bits_high_first (suc w) n = n / 2 ^ w % 2 ∷ bits_high_first w n

-- the bits of bytes, eight of each, the highest first
abbrev pub bits_of : List ℕ → List ℕ
bits_of = flat_map (bits_high_first 8)

-- the first k of a number's w bits
abbrev pub first_bits : ℕ → ℕ → ℕ → List ℕ
first_bits w n k = take k (bits_high_first w n)
