-- Where the points are. S holds of the stored lists.
use Rattle.std.specs.Prelude.{◌≡◌, ℕ, ◌≢◌, ◌⊎◌, List, [], ◌∷◌, ◌++◌}
use Rattle.nibble_map.specs.Lists.{IsPrefix}

-- some stored list has the prefix p
abbrev pub IsReached : (List ℕ → Type 0) → List ℕ → Type 0
IsReached S p = (e : List ℕ) × S e × IsPrefix p e

-- stored lists part at p: some go on by a and some by b
abbrev pub IsBranchPoint : (List ℕ → Type 0) → List ℕ → Type 0
IsBranchPoint S p = (a : ℕ) × (b : ℕ) × (a ≢ b) × IsReached S (p ++ a ∷ [])
    × IsReached S (p ++ b ∷ [])

-- the points: the empty list, the stored lists, and where stored lists part
abbrev pub IsPoint : (List ℕ → Type 0) → List ℕ → Type 0
IsPoint S p = (p ≡ []) ⊎ (S p ⊎ IsBranchPoint S p)

-- the non-empty prefixes of stored lists
abbrev pub IsSomePrefix : (List ℕ → Type 0) → List ℕ → Type 0
IsSomePrefix S p = (p ≢ []) × IsReached S p
