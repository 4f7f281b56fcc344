-- What a frozen trie stands for, and what it keeps.
use Rattle.std.specs.Prelude.{◌≡◌, ℕ, zero, suc, List, [], Option, None, Some, length, reverse, slice_get, map as each}
use Rattle.std.specs.FinMap as map
use Rattle.nibble_map.specs.Lists.{IsRising}
use Rattle.nibble_map.specs.Maps.{PairMap}
use Rattle.radix_trie.specs.Views.{pairs_above, pairs_below}
use Rattle.sorted_tables.specs.Tables.{IsFirstUnordered}
use Rattle.encoded_keys.specs.Codes.{IsLinked}

module _ {K V : Type 0} (enc : K → List ℕ) where
  -- the encodings of pairs
  abbrev pub codes_of : List (K × V) → List (List ℕ)
  codes_of ps = each (λ p. enc p.0) ps

  -- the pairs, each with its encoding
  abbrev pub coded_pairs : List (K × V) → List (List ℕ × (K × V))
  coded_pairs ps = each (λ p. (enc p.0, p)) ps

  -- the map from each encoding to its pair
  abbrev pub map_of_pairs : List (K × V) → PairMap K V
  map_of_pairs ps = map.from_sorted (coded_pairs ps)

  -- the pairs whose encodings are prefixes of that of a pair, if there is one, from the longest up
  abbrev pub pairs_up_from : PairMap K V → Option (K × V) → List (K × V)
  pairs_up_from m None = []
  pairs_up_from m (Some p) = reverse (pairs_above m (enc p.0))

  -- the same of the pair whose index and one more is n, in the order of the encodings; none at 0
  abbrev pub prefixes_up : PairMap K V → ℕ → List (K × V)
  prefixes_up m zero = []
  prefixes_up m (suc i) = pairs_up_from m (slice_get (pairs_below m []) i)

-- the lists are the encodings of the pairs
pub record IsFrozen {K V : Type 0} (enc : K → List ℕ) (cs : List (List ℕ)) (ps : List (K × V))
    (parents : List ℕ) : Type 0 where
  pub keyed : cs ≡ codes_of enc ps
  pub linked : IsLinked cs parents

-- the list at i is the first that doesn't come after all those before it
abbrev pub IsFirstListOutOfOrder : List (List ℕ) → ℕ → Type 0
IsFirstListOutOfOrder cs i = IsFirstUnordered IsRising cs i
