-- Rows by the lists of bits that a trie stores them at.
use Rattle.std.specs.Prelude.{ℕ, ◌≤◌, List, Option, MatchOption, length}
use Rattle.nibble_map.specs.Lists.{Has, IsPrefix}
use Rattle.radix_keys.specs.Bits.{first_bits}
use Rattle.radix_keys.specs.Networks.{Net}

-- addresses have w bits, and these numbers
module _ {A V : Type 0} (w : ℕ) (number : A → ℕ) where
  -- the bits that the addresses of a row's network share
  abbrev pub shared_bits : Net A × V → List ℕ
  shared_bits r = first_bits w (number r.0.base) r.0.bits

  -- the row whose list is the longest of those that are prefixes of q, or None where none is
  abbrev pub IsNearestRow : List (Net A × V) → (q : List ℕ) → Option (Net A × V) → Type 0
  IsNearestRow rows q found = MatchOption found ((r : Net A × V) → Has rows r → IsPrefix (shared_bits r) q → ⊥)
      (λ r. Has rows r × IsPrefix (shared_bits r) q
      × ((s : Net A × V) → Has rows s → IsPrefix (shared_bits s) q → length (shared_bits s) ≤ length (shared_bits r)))
