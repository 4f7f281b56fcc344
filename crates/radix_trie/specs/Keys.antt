-- Maps whose keys are told apart by their encodings.
use Rattle.std.specs.Prelude.{◌≡◌, ℕ, IsTrue, List, Some, ⊤}
use Rattle.std.specs.Cmp.Lexicographic.{slice_cmp}
use Rattle.std.specs.FinMap as map
use Rattle.std.specs.Ordering.{is_le, nat_cmp}
use Rattle.std.specs.Range.Bound.{MatchBound}
use Rattle.std.specs.declared.cmp.Ordering.{Ordering}
use Rattle.std.specs.declared.cmp.Ordering.TheVariants.{Less}
use Rattle.std.specs.declared.ops.Bound.{Bound}
use Rattle.nibble_map.specs.Maps.{PairMap}

-- each stored key stands at its encoding, and is a value of its type, as `is` says
abbrev pub IsKeyed : {K V : Type 0} → (K → List ℕ) → (K → Type 0) → PairMap K V → Type 0
IsKeyed {K} {V} enc is m = (e : List ℕ) (p : K × V) → map.get m e ≡ Some p → (e ≡ enc p.0) × is p.0

-- the encodings keep the order `cmp` of the values of the type: two encodings compare as the keys do
abbrev pub IsKeptOrder : {K : Type 0} → (K → List ℕ) → (K → Type 0) → (K → K → Ordering) → Type 0
IsKeptOrder {K} enc is cmp = (x y : K) → is x → is y → slice_cmp nat_cmp (enc x) (enc y) ≡ cmp x y

-- the bound's key is a value of its type, if there is one
abbrev pub IsBoundValue : {K : Type 0} → (K → Type 0) → Bound K → Type 0
IsBoundValue is b = MatchBound b is is ⊤

-- k comes after the lower bound in the order `cmp`, or is it where that counts
abbrev pub IsAboveBound : {K : Type 0} → (K → K → Ordering) → Bound K → K → Type 0
IsAboveBound cmp low k = MatchBound low (λ a. IsTrue (is_le (cmp a k))) (λ a. cmp a k ≡ Less) ⊤

-- k comes before the upper bound in the order `cmp`, or is it where that counts
abbrev pub IsBelowBound : {K : Type 0} → (K → K → Ordering) → Bound K → K → Type 0
IsBelowBound cmp high k = MatchBound high (λ b. IsTrue (is_le (cmp k b))) (λ b. cmp k b ≡ Less) ⊤
