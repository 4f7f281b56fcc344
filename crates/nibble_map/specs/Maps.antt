-- The finite map that a trie is seen as, and its points.
use Rattle.std.specs.Prelude.{ℕ, T, not, List, Option, Some, None, map as each}
use Rattle.std.specs.Coded.{Coded, coded_ℕ, coded_list, coded×}
use Rattle.std.specs.Option.{option_map}
use Rattle.std.specs.Ordering.{nat_cmp}
use Rattle.std.specs.Cmp.Lexicographic.{slice_cmp}
use Rattle.std.specs.FinMap as map
use Rattle.nibble_map.specs.Lists.{is_prefix}
use Rattle.nibble_map.specs.Points as points

-- a map from lists of nibbles, in their lexicographic order
abbrev pub NibbleMap : Type 0 → Type 0
NibbleMap P = map.FinMap (slice_cmp nat_cmp) P

-- from lists of nibbles to pairs of a key and its value
abbrev pub PairMap : Type 0 → Type 0 → Type 0
PairMap K V = NibbleMap (K × V)

abbrev pub pair_map_code : {K V : Type 0} → Coded K → Coded V → Coded (PairMap K V)
pair_map_code k v = map.code (coded_list coded_ℕ) (coded× k v)

module _ {K V : Type 0} where
  -- the value at e
  abbrev pub value_at : PairMap K V → List ℕ → Option V
  value_at m e = option_map (λ p. p.1) (map.get m e)

  abbrev pub set_value : PairMap K V → List ℕ → V → Option (K × V) → PairMap K V
  set_value m e w None = m
  set_value m e w (Some p) = map.insert m e (p.0, w)

  -- the map with w as the value at e, where it has one
  abbrev pub with_value : PairMap K V → List ℕ → V → PairMap K V
  with_value m e w = set_value m e w (map.get m e)

-- the map with each list's f in place of what it holds there
abbrev pub mapped : {P Q : Type 0} → (P → Q) → NibbleMap P → NibbleMap Q
mapped f m = map.from_sorted (each (λ e. (e.0, f e.1)) (map.entries m))

module _ {P : Type 0} where
  -- the map holds a pair at e
  abbrev pub IsStored : NibbleMap P → List ℕ → Type 0
  IsStored m e = T (map.contains_key m e)

  -- the part of the map whose lists have the prefix p
  abbrev pub below : NibbleMap P → List ℕ → NibbleMap P
  below m p = map.retain_keys m (is_prefix p)

  -- the part of the map whose lists haven't the prefix p
  abbrev pub without_below : NibbleMap P → List ℕ → NibbleMap P
  without_below m p = map.retain_keys m (λ e. not (is_prefix p e))

  -- the ordered walk of what is below p
  abbrev pub walk : NibbleMap P → List ℕ → List (List ℕ × P)
  walk m p = map.entries (below m p)

  -- the words of `Points`, of the lists that the map holds
  abbrev pub IsReached : NibbleMap P → List ℕ → Type 0
  IsReached m p = points.IsReached (IsStored m) p

  abbrev pub IsBranchPoint : NibbleMap P → List ℕ → Type 0
  IsBranchPoint m p = points.IsBranchPoint (IsStored m) p

  abbrev pub IsPoint : NibbleMap P → List ℕ → Type 0
  IsPoint m p = points.IsPoint (IsStored m) p

  abbrev pub IsSomePrefix : NibbleMap P → List ℕ → Type 0
  IsSomePrefix m p = points.IsSomePrefix (IsStored m) p
