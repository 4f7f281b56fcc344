-- What is left of the bounds of a walk behind a path.
use Rattle.std.specs.Prelude.{◌≡◌, ℕ, ◌+◌, ◌≤◌, Bool, false, List, ◌++◌, drop, length, Option, Some, None, option_map, ⊤}
use Rattle.std.specs.Borrow.{Bor}
use Rattle.std.specs.Range.Bound.{MatchBound}
use Rattle.std.specs.declared.ops.Bound.{Bound}
use Rattle.radix_trie.specs.declared.locus.within.Limits.{Limits}
use Rattle.radix_trie.specs.Views.{is_within}
use Rattle.radix_trie.specs.Walks.{bound_behind, bound_now}

-- the list goes on from f behind `depth` nibbles
abbrev pub GoesOn : List ℕ → ℕ → List ℕ → Type 0
GoesOn f depth q = (depth + length f ≤ length q) × (f ++ drop (depth + length f) q ≡ drop depth q)

-- the bound's list does so, if it has one, and so many of its nibbles are passed then
abbrev pub BoundGoesOn : List ℕ → ℕ → ℕ → Bound (List ℕ) → Type 0
BoundGoesOn f depth next b = MatchBound b
    (λ q. (next ≡ depth + length f) × GoesOn f depth q) (λ q. (next ≡ depth + length f) × GoesOn f depth q) ⊤

-- a limit that refers to a list, as a limit
abbrev pub limit_now : Option (Bound (Bor (List ℕ)) × ℕ) → Option (Bound (List ℕ) × ℕ)
limit_now o = option_map (λ r. (bound_now r.0, r.1)) o

-- what is left of the bound b behind f, of which `depth` nibbles lie in front, and how many are passed
-- then; or None where no list that f begins passes
abbrev pub IsLimit : (Bound (List ℕ) → List ℕ → Bool) → List ℕ → ℕ → Bound (List ℕ)
    → Option (Bound (List ℕ) × ℕ) → Type 0
IsLimit passes f depth b None = (y : List ℕ) → passes (bound_behind depth b) (f ++ y) ≡ false
IsLimit passes f depth b (Some r) = (r.1 ≤ depth + length f) × BoundGoesOn f depth r.1 r.0
    × ((y : List ℕ) → passes (bound_behind depth b) (f ++ y)
    ≡ passes (bound_behind (depth + length f) r.0) y)

-- the limits are what is left of two bounds behind p
abbrev pub AreLimits : List ℕ → Bound (List ℕ) → Bound (List ℕ) → Option Limits → Type 0
AreLimits p low high None = (y : List ℕ) → is_within low high (p ++ y) ≡ false
AreLimits p low high (Some l) = (l.depth ≡ length p)
    × BoundGoesOn p 0 (length p) (bound_now l.low)
    × BoundGoesOn p 0 (length p) (bound_now l.high)
    × ((y : List ℕ) → is_within low high (p ++ y)
    ≡ is_within (bound_behind l.depth (bound_now l.low)) (bound_behind l.depth (bound_now l.high)) y)
