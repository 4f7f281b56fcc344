-- Bytes read as nibbles.
use Rattle.std.specs.Prelude.{ℕ, ◌/◌, ◌%◌, ◌≤◌, List, [], ◌∷◌, length}

-- the nibbles of a byte list, the high half of each byte first
abbrev pub nibbles : List ℕ → List ℕ
nibbles [] = []
nibbles (x ∷ xs) = (x / 16) ∷ ((x % 16) ∷ nibbles xs)

-- a list of at most 32 nibbles, which needs no memory
abbrev pub IsShort : List ℕ → Type 0
IsShort xs = length xs ≤ 32
