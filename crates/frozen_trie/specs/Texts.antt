-- Byte strings as keys: what a frozen map of them stands for, and what it keeps.
use Rattle.std.specs.Prelude.{◌≡◌, ℕ, List, [], ◌∷◌, length, String, string_bytes, map as each}
use Rattle.std.specs.declared.alloc.Global.{Global}
use Rattle.nibble_map.specs.Lists.{IsBefore}
use Rattle.nibble_map.specs.Maps.{IsStored, NibbleMap, PairMap}
use Rattle.nibble_map.specs.Nibbles.{nibbles}
use Rattle.encoded_keys.specs.Laid.{packed_bytes}
use Rattle.frozen_trie.specs.Frozen.{IsFrozen, map_of_pairs}

module _ {V : Type 0} where
  -- the bytes of each list of nibbles, with their value
  abbrev pub text_pairs : List (List ℕ) → List V → List (List ℕ × V)
  text_pairs [] vs = []
  text_pairs (c ∷ cs) [] = []
  text_pairs (c ∷ cs) (v ∷ vs) = (packed_bytes c, v) ∷ text_pairs cs vs

  -- the map from each list to its bytes and their value
  abbrev pub text_map : List (List ℕ) → List V → PairMap (List ℕ) V
  text_map cs vs = map_of_pairs nibbles (text_pairs cs vs)

-- the lists are the nibbles of byte strings and rise, each has a value and its link
pub record AreTexts {V : Type 0} (cs : List (List ℕ)) (vs : List V) (parents : List ℕ) : Type 0 where
  pub frozen : IsFrozen nibbles cs (text_pairs cs vs) parents
  pub valued : length vs ≡ length cs

-- pairs by the bytes of their texts
abbrev pub byte_pairs : {V : Type 0} → List (String Global × V) → List (List ℕ × V)
byte_pairs ps = each (λ p. (string_bytes p.0, p.1)) ps

-- each list that is stored comes before e
abbrev pub IsBehindAll : {P : Type 0} → NibbleMap P → List ℕ → Type 0
IsBehindAll m e = (x : List ℕ) → IsStored m x → IsBefore x e
