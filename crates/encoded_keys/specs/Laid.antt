-- Lists of nibbles packed one behind the other, each in whole bytes.
use Rattle.std.specs.Prelude.{◌≡◌, ℕ, zero, suc, slice_index, nat_eq, ◌+◌, ◌-◌, ◌*◌, ◌/◌, ◌%◌, ◌≤◌, List, [], ◌∷◌, length, take, drop, map as each, Bool}
use Rattle.radix_keys.specs.Packing.{IsPadded, unpacked}

-- the bytes of nibbles, two to a byte; of an odd count the low half of the last byte is zero
abbrev pub packed_bytes : List ℕ → List ℕ
packed_bytes [] = []
packed_bytes (a ∷ []) = (a * 16) ∷ []
packed_bytes (a ∷ b ∷ c) = (a * 16 + b) ∷ packed_bytes c

-- the bytes from one place up to another
abbrev pub piece_of : List ℕ → ℕ → ℕ → List ℕ
piece_of bytes from end = take (end - from) (drop from bytes)

-- where the list at an index begins
abbrev pub start_of : ℕ → List ℕ → ℕ → ℕ
start_of from ends zero = from
start_of from ends (suc k) = slice_index ends k

-- the lists that begin at `from` and end where `ends` says
abbrev pub codes_in : List ℕ → ℕ → List ℕ → List Bool → List (List ℕ)
codes_in bytes from [] odds = []
codes_in bytes from (e ∷ es) [] = []
codes_in bytes from (e ∷ es) (o ∷ os) = unpacked (piece_of bytes from e) o ∷ codes_in bytes e es os

-- of numbers that are twice an end, and one more where the count of nibbles is odd: the ends
abbrev pub halves : List ℕ → List ℕ
halves es = each (λ e. e / 2) es

-- and which counts are odd
abbrev pub odds : List ℕ → List Bool
odds es = each (λ e. nat_eq (e % 2) 1) es

-- each ends at or behind where it begins, an unused half is zero, and the last ends with the bytes
abbrev pub IsLaid : List ℕ → ℕ → List ℕ → List Bool → Type 0
IsLaid bytes from [] [] = from ≡ length bytes
IsLaid bytes from [] (o ∷ os) = ⊥
IsLaid bytes from (e ∷ es) [] = ⊥
IsLaid bytes from (e ∷ es) (o ∷ os) = (from ≤ e) × (e ≤ length bytes)
    × IsPadded (piece_of bytes from e) o × IsLaid bytes e es os
