-- Networks by the lists of bits that a trie stores them at, and the map of rows.
use Rattle.std.specs.Prelude.{ℕ, List}
use Rattle.nibble_map.specs.Maps.{PairMap}
use Rattle.radix_keys.specs.Bits.{first_bits}
use Rattle.radix_keys.specs.Networks.{Net, IsBase}
use Rattle.radix_trie.specs.Keys.{IsKeyed}
use Rattle.frozen_trie.specs.Frozen.{map_of_pairs}

-- addresses have w bits, and these numbers
module _ {A : Type 0} (w : ℕ) (number : A → ℕ) where
  -- the bits that a network's addresses share
  abbrev pub network_code : Net A → List ℕ
  network_code net = first_bits w (number net.base) net.bits

  -- the base has 0 in each bit behind these
  abbrev pub IsNetwork : Net A → Type 0
  IsNetwork net = IsBase w net.bits (number net.base)

  -- each network of the map stands at its bits
  abbrev pub IsMapOfNetworks : {V : Type 0} → PairMap (Net A) V → Type 0
  IsMapOfNetworks m = IsKeyed network_code IsNetwork m

  -- the map from each network's bits to its row
  abbrev pub network_map : {V : Type 0} → List (Net A × V) → PairMap (Net A) V
  network_map rows = map_of_pairs network_code rows
