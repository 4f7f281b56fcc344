-- Lists of parts, and the bytes that they are kept as.
use Rattle.std.specs.Prelude.{◌≡◌, ◌==◌, ℕ, List, [], ◌∷◌, ◌++◌, length, take, flat_map, All, Contains, Option, Some, None}
use Rattle.std.specs.Borrow.{Bor}
use Rattle.std.specs.Cmp.Lexicographic.{slice_cmp}
use Rattle.std.specs.List.{slice_split}
use Rattle.std.specs.Ordering.{nat_cmp}
use Rattle.std.specs.declared.cmp.Ordering.TheVariants.{Less}
use Rattle.nibble_map.specs.Nibbles.{nibbles}
use Rattle.radix_keys.specs.Order.{Precedes}

-- none of the bytes is 0
abbrev pub IsPart : List ℕ → Type 0
IsPart bytes = ¬ (Contains bytes 0)

-- each of the lists of bytes is a part
abbrev pub AreParts : List (List ℕ) → Type 0
AreParts = All IsPart

-- the bytes of each part, and a 0 behind them
abbrev pub part_bytes : List (List ℕ) → List ℕ
part_bytes = flat_map (λ part. part ++ 0 ∷ [])

-- the list p of parts is above q, or is q: q is p followed by some parts
abbrev pub IsPartsPrefix : List (List ℕ) → List (List ℕ) → Type 0
IsPartsPrefix p q = (rest : List (List ℕ)) × (q ≡ p ++ rest)

-- of two lists of parts the one that comes first, part by part, has the smaller encoding
pub record KeepsPartsOrder : Type 0 where
  pub precedes : (p q : List (List ℕ)) → AreParts p → AreParts q → slice_cmp (slice_cmp nat_cmp) p q ≡ Less
      → Precedes (nibbles (part_bytes p)) (nibbles (part_bytes q))

-- the parts of kept bytes: what stands between two 0, but for the last byte, which ends the last part
abbrev pub parts_of : List ℕ → List (List ℕ)
parts_of [] = []
parts_of (b ∷ bytes) = slice_split (λ x. x == 0) (take (length bytes) (b ∷ bytes))

-- the bytes are those of their parts
pub record ArePartBytes (bytes : List ℕ) : Type 0 where
  pub ended : bytes ≡ part_bytes (parts_of bytes)
  pub parts : AreParts (parts_of bytes)

-- what is left to be cut at the separator, if anything is
abbrev pub parts_left : ℕ → Option (Bor (List ℕ)) → List (List ℕ)
parts_left separator None = []
parts_left separator (Some rest) = slice_split (λ x. x == separator) rest.now
