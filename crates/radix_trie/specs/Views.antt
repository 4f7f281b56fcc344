-- What clauses see of a view for reading, and of the bounds of a walk.
use Rattle.std.specs.Prelude.{◌≡◌, ℕ, Bool, true, false, cond, List, Option, Some, None, filter, map as each, ⊤}
use Rattle.std.proofs.Common.{refl}
use Rattle.std.specs.Cmp.Lexicographic.{slice_cmp}
use Rattle.std.specs.FinMap as finite
use Rattle.std.specs.Option.{option_map, unwrap_or}
use Rattle.std.specs.Ordering.{is_le, is_lt, nat_cmp}
use Rattle.std.specs.Range.Bound.{MatchBound, bound_map}
use Rattle.std.specs.declared.ops.Bound.{Bound}
use Rattle.std.specs.declared.ops.Bound.TheVariants.{Included, Excluded, Unbounded}
use Rattle.std.specs.Coded.{Coded, code_by, coded_list, coded_ℕ, coded×}
use Rattle.nibble_map.specs.Lists.{is_prefix}
use Rattle.nibble_map.specs.MapQueries.{IsAncestor}
use Rattle.nibble_map.specs.Maps.{PairMap, pair_map_code, value_at, walk, with_value}

-- the map of the trie, and the view's path in it
pub record ReadView (K V : Type 0) : Type 0 where
  pub map : PairMap K V
  pub path : List ℕ

abbrev pub read_view_code : {K V : Type 0} → Coded K → Coded V → Coded (ReadView K V)
read_view_code {K} {V} k v =
    code_by (PairMap K V × List ℕ) (coded× (pair_map_code k v) (coded_list coded_ℕ))
    (λ r. (r.map, r.path)) (λ p. record { map = p.0; path = p.1 }) (λ _. refl)

-- the bound of a key's encoding
abbrev pub encoded_bound : {Q : Type 0} → (Q → List ℕ) → Bound Q → Bound (List ℕ)
encoded_bound enc b = bound_map enc b

-- the bound's key is inline, if there is one
abbrev pub IsInlineBound : {Q : Type 0} → (Q → Type 0) → Bound Q → Type 0
IsInlineBound is_inline b = MatchBound b is_inline is_inline ⊤

-- e comes after the lower bound, or is it where that counts
abbrev pub is_above : Bound (List ℕ) → List ℕ → Bool
is_above (Included q) e = is_le (slice_cmp nat_cmp q e)
is_above (Excluded q) e = is_lt (slice_cmp nat_cmp q e)
is_above Unbounded e = true

-- e comes before the upper bound, or is it where that counts
abbrev pub is_below : Bound (List ℕ) → List ℕ → Bool
is_below (Included q) e = is_le (slice_cmp nat_cmp e q)
is_below (Excluded q) e = is_lt (slice_cmp nat_cmp e q)
is_below Unbounded e = true

-- e stands within the two bounds
abbrev pub is_within : Bound (List ℕ) → Bound (List ℕ) → List ℕ → Bool
is_within low high e = cond (is_below high e) (is_above low e) false

module _ {K V : Type 0} where
  -- the paths of views
  abbrev pub paths_of : List (ReadView K V) → List (List ℕ)
  paths_of views = each (λ v. v.path) views

  -- the value at a list, if there is a list
  abbrev pub value_of : PairMap K V → Option (List ℕ) → Option V
  value_of m None = None
  value_of m (Some e) = value_at m e

  -- v is the value of the longest stored list that is a prefix of e, or None where there is none
  abbrev pub IsValueAbove : PairMap K V → List ℕ → Option V → Type 0
  IsValueAbove m e v = (a : Option (List ℕ)) × IsAncestor m e a × (v ≡ value_of m a)

  -- the pair at a list, if there is a list
  abbrev pub pair_of_list : PairMap K V → Option (List ℕ) → Option (K × V)
  pair_of_list m None = None
  pair_of_list m (Some e) = finite.get m e

  -- p is the pair at the longest stored list that is a prefix of e, or None where there is none
  abbrev pub IsPairAbove : PairMap K V → List ℕ → Option (K × V) → Type 0
  IsPairAbove m e p = (a : Option (List ℕ)) × IsAncestor m e a × (p ≡ pair_of_list m a)

  -- the map with the value w at e, by the key that is stored there, or by k where none is
  abbrev pub with_value_or : PairMap K V → List ℕ → K → V → PairMap K V
  with_value_or m e k w = finite.insert m e (unwrap_or (option_map (λ p. p.0) (finite.get m e)) k, w)

  -- n is m with the value w at the longest stored list that is a prefix of e
  abbrev pub IsWrittenAbove : PairMap K V → List ℕ → V → PairMap K V → Type 0
  IsWrittenAbove m e w n = (a : List ℕ) × IsAncestor m e (Some a) × (n ≡ with_value m a w)

  -- the part of the map whose lists are prefixes of e
  abbrev pub above : PairMap K V → List ℕ → PairMap K V
  above m e = finite.retain_keys m (λ p. is_prefix p e)

  -- the pairs whose lists are prefixes of e, in the order of their lists: the shortest first
  abbrev pub pairs_above : PairMap K V → List ℕ → List (K × V)
  pairs_above m e = each (λ x. x.1) (finite.entries (above m e))

  -- the pairs at and below a path, in the order of their lists
  abbrev pub pairs_below : PairMap K V → List ℕ → List (K × V)
  pairs_below m p = each (λ e. e.1) (walk m p)

  -- the same of the lists within two bounds
  abbrev pub pairs_within : PairMap K V → List ℕ → Bound (List ℕ) → Bound (List ℕ) → List (K × V)
  pairs_within m p low high = each (λ e. e.1) (filter (λ e. is_within low high e.0) (walk m p))

  -- the same from q on: of the lists that are q or come after it in their order
  abbrev pub pairs_from : PairMap K V → List ℕ → List ℕ → List (K × V)
  pairs_from m p q = each (λ e. e.1) (filter (λ e. is_le (slice_cmp nat_cmp q e.0)) (walk m p))

  -- the same after q: of the lists that come after it in their order
  abbrev pub pairs_after : PairMap K V → List ℕ → List ℕ → List (K × V)
  pairs_after m p q = each (λ e. e.1) (filter (λ e. is_lt (slice_cmp nat_cmp q e.0)) (walk m p))

  -- the pairs at and below a path before q: of the lists that come before it in their order
  abbrev pub pairs_before : PairMap K V → List ℕ → List ℕ → List (K × V)
  pairs_before m p q = each (λ e. e.1) (filter (λ e. is_lt (slice_cmp nat_cmp e.0 q)) (walk m p))
