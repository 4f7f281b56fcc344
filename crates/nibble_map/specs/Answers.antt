-- The answers of queries. S holds of the stored lists.
use Rattle.std.specs.Prelude.{◌≡◌, ℕ, ◌+◌, ◌≤◌, ◌≢◌, ◌⊎◌, List, [], ◌∷◌, ◌++◌, length, Option, MatchOption}
use Rattle.nibble_map.specs.Lists.{IsPrefix, Lists, Counts}
use Rattle.nibble_map.specs.Points.{IsPoint, IsSomePrefix}

-- p is the longest list of C that is a prefix of e
pub record IsLongest (C : List ℕ → Type 0) (e p : List ℕ) : Type 0 where
  pub member : C p
  pub above : IsPrefix p e
  pub longest : (q : List ℕ) → C q → IsPrefix q e → length q ≤ length p

-- p is the shortest list of C that e is a prefix of
pub record IsShortest (C : List ℕ → Type 0) (e p : List ℕ) : Type 0 where
  pub member : C p
  pub below : IsPrefix e p
  pub shortest : (q : List ℕ) → C q → IsPrefix e q → length p ≤ length q

-- the answer is the longest stored list that is a prefix of e, or none where there is none
abbrev pub IsAncestor : (List ℕ → Type 0) → List ℕ → Option (List ℕ) → Type 0
IsAncestor S e a = MatchOption a ((p : List ℕ) → S p → IsPrefix p e → ⊥) (λ p. IsLongest S e p)

-- the answer is the longest point that is a prefix of e
abbrev pub IsRawAncestor : (List ℕ → Type 0) → List ℕ → List ℕ → Type 0
IsRawAncestor S e p = IsLongest (IsPoint S) e p

-- the answer is the shortest point that e is a prefix of, or none where there is none
abbrev pub IsRawDescendant : (List ℕ → Type 0) → List ℕ → Option (List ℕ) → Type 0
IsRawDescendant S e a =
    MatchOption a ((p : List ℕ) → IsPoint S p → IsPrefix e p → ⊥) (λ p. IsShortest (IsPoint S) e p)

-- f is what the point p has beyond the longest point strictly above it; empty for the empty list
abbrev pub IsFragment : (List ℕ → Type 0) → List ℕ → List ℕ → Type 0
IsFragment S p f =
    ((p ≡ []) × (f ≡ []))
    ⊎ ((q : List ℕ) × IsLongest (λ x. IsPoint S x × (x ≢ p)) p q × (p ≡ q ++ f))

-- q is the shortest point with the prefix p and one nibble more
abbrev pub IsChild : (List ℕ → Type 0) → List ℕ → List ℕ → Type 0
IsChild S p q = (a : ℕ) × IsShortest (IsPoint S) (p ++ a ∷ []) q

-- the children of p, by rising nibble
abbrev pub AreChildren : (List ℕ → Type 0) → List ℕ → List (List ℕ) → Type 0
AreChildren S p qs = Lists (IsChild S p) qs

-- n nibbles are compared in a search for e: those of the longest prefix of e that is empty or a
-- prefix of a stored list, and one more where that prefix isn't e and isn't a point
abbrev pub IsCompared : (List ℕ → Type 0) → List ℕ → ℕ → Type 0
IsCompared S e n = (p : List ℕ) × IsLongest (λ x. (x ≡ []) ⊎ IsSomePrefix S x) e p
    × ((((p ≡ e) ⊎ IsPoint S p) × (n ≡ length p))
    ⊎ ((p ≢ e) × (IsPoint S p → ⊥) × (n ≡ length p + 1)))

-- a search for e visits n nodes: as many as there are points that are prefixes of e
abbrev pub IsVisited : (List ℕ → Type 0) → List ℕ → ℕ → Type 0
IsVisited S e n = Counts (λ p. IsPoint S p × IsPrefix p e) n
