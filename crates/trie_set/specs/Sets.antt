-- Sets of keys: maps from lists of nibbles, which hold at each list its key, and nothing else with it.
use Rattle.std.specs.Prelude.{◌≡◌, ℕ, cond, List, Option, map as each, option_map}
use Rattle.std.specs.FinMap as map
use Rattle.nibble_map.specs.MapQueries.{IsAncestor}
use Rattle.nibble_map.specs.Maps.{PairMap}
use Rattle.radix_trie.specs.Views.{pair_of_list}

-- a set of keys, by their encodings
abbrev pub KeyMap : Type 0 → Type 0
KeyMap K = PairMap K (Unit {0})

module _ {K V : Type 0} where
  -- the key at e
  abbrev pub key_at : PairMap K V → List ℕ → Option K
  key_at m e = option_map (λ p. p.0) (map.get m e)

  -- the keys, in the order of their lists
  abbrev pub keys_in : PairMap K V → List K
  keys_in m = each (λ e. e.1.0) (map.entries m)

  -- k is the key at the longest stored list that is a prefix of e, or None where there is none
  abbrev pub IsKeyAbove : PairMap K V → List ℕ → Option K → Type 0
  IsKeyAbove m e k =
      (a : Option (List ℕ)) × IsAncestor m e a × (k ≡ option_map (λ p. p.0) (pair_of_list m a))

-- the set with the key at e, where nothing is stored there; else the stored key stays
abbrev pub with_key : {K : Type 0} → KeyMap K → List ℕ → K → KeyMap K
with_key m e k = cond (map.contains_key m e) m (map.insert m e (k, tt))
