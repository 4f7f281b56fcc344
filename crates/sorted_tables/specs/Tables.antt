-- Items in order, by their indices: where a search parts them, and the links from each to the last earlier one around it.
use Rattle.std.specs.Prelude.{ℕ, zero, suc, ◌+◌, ◌-◌, ◌<◌, ◌≤◌, Bool, List, [], filter, length, reverse, slice_index, take}

-- front holds of the first c of n items, and behind of the others
pub record IsPartedAt (front behind : ℕ → Type 0) (n c : ℕ) : Type 0 where
  pub within : c ≤ n
  pub before : (k : ℕ) → k < c → front k
  pub after : (k : ℕ) → c ≤ k → k < n → behind k

-- the last of the first n items that is sought is at r less one, or there is none and r is 0
pub record IsLastOf (is_sought : ℕ → Type 0) (n r : ℕ) : Type 0 where
  pub within : r ≤ n
  pub holds : 0 < r → is_sought (r - 1)
  pub none : (k : ℕ) → r ≤ k → k < n → is_sought k → ⊥

-- each link leads from an item to the last earlier one that is around it
abbrev pub AreLinksOf : (is_around : ℕ → ℕ → Type 0) → (parents : List ℕ) → Type 0
AreLinksOf is_around parents = (i : ℕ) → i < length parents → IsLastOf (λ k. is_around k i) i (slice_index parents i)

module _ {X : Type 0} where
  -- the item at i is the first that doesn't come after all those before it
  pub record IsFirstUnordered (is_rising : List X → Type 0) (xs : List X) (i : ℕ) : Type 0 where
    pub within : i < length xs
    pub before : is_rising (take i xs)
    pub unsorted : is_rising (take (i + 1) xs) → ⊥

  -- those of the first n items that are around the last of these, from the last up; none at 0
  abbrev pub items_up : (is_around : ℕ → X → Bool) → List X → ℕ → List X
  items_up is_around xs zero = []
  items_up is_around xs (suc i) = reverse (filter (is_around i) (take (suc i) xs))
