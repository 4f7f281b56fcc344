-- Lists with the first nibble turned over, and what follows of maps.
use Rattle.std.specs.Prelude.{◌≡◌, ◌↔◌, ℕ, ◌∷◌, [], List, Some}
use Rattle.std.specs.Int.Bits.{bit_xor}
use Rattle.std.specs.FinMap as fin
use Rattle.nibble_map.specs.Lists.{Counts}
use Rattle.nibble_map.specs.Maps.{NibbleMap, IsStored, IsPoint, IsSomePrefix}

-- the list with the highest bit of its first nibble turned over
abbrev pub turned : List ℕ → List ℕ
turned [] = []
turned (a ∷ e) = bit_xor a 8 ∷ e

-- n stores the turned lists of m and no other, and R holds of the pairs at each
pub record IsTurnedCopy {P Q : Type 0} (R : P → Q → Type 0) (m : NibbleMap P) (n : NibbleMap Q) :
    Type 0 where
  pub turned_lists : (e : List ℕ) → IsStored m e ↔ IsStored n (turned e)
  pub only_turned : (e : List ℕ) → IsStored n e ↔ IsStored m (turned e)
  pub copied_pairs : (e : List ℕ) (x : P) (y : Q) → fin.get m e ≡ Some x
      → fin.get n (turned e) ≡ Some y → R x y

-- the maps have as many points, and their stored lists as many non-empty prefixes
pub record IsSameFootprint {P Q : Type 0} (m : NibbleMap P) (n : NibbleMap Q) : Type 0 where
  pub nodes : (k : ℕ) → Counts (IsPoint m) k ↔ Counts (IsPoint n) k
  pub nibbles : (k : ℕ) → Counts (IsSomePrefix m) k ↔ Counts (IsSomePrefix n) k
