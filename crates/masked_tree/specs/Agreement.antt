-- How far two lists agree.
use Rattle.std.specs.Prelude.{◌≡◌, ℕ, ◌+◌, ◌≤◌, ◌<◌, ◌≢◌, ◌⊎◌, List, length, take, slice_index}

-- A fragment f and a list agree in their first `same` nibbles and no further: so many are compared,
-- and one more where both go on.
pub record Agrees (f list : List ℕ) (same compared : ℕ) : Type 0 where
  pub within : same ≤ length f
  pub inside : same ≤ length list
  pub alike : take same f ≡ take same list
  pub apart : same < length f → same < length list → slice_index f same ≢ slice_index list same
  pub ended : (same ≡ length f) ⊎ (same ≡ length list) → compared ≡ same
  pub parted : same < length f → same < length list → compared ≡ same + 1
