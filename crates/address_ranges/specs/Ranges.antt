-- Ranges of addresses by the numbers of their first and last, and the networks that they are made of.
use Rattle.std.specs.Prelude.{ℕ, zero, suc, ◌+◌, ◌-◌, ◌^◌, ◌<◌, ◌≤◌, ◌↔◌, ◌&&◌, leb, cond, Bool, List, [], ◌∷◌, ◌++◌, Option, Some, None}
use Rattle.std.specs.List.{All, Any}
use Rattle.radix_keys.specs.Networks.{Net, IsBase, AgreeIn}

-- the number n lies in the range from first to last
abbrev pub IsInRange : (first last n : ℕ) → Type 0
IsInRange first last n = (first ≤ n) × (n ≤ last)

-- a network by the number of its base
abbrev pub net_by_number : {A : Type 0} → (A → ℕ) → Net A → Net ℕ
net_by_number number net = record { base = number net.base; bits = net.bits }

-- a network of addresses of w bits
abbrev pub IsNet : ℕ → Net ℕ → Type 0
IsNet w net = IsBase w net.bits net.base

-- the network, of addresses of w bits, holds the address n
abbrev pub HoldsAddress : (w n : ℕ) → Net ℕ → Type 0
HoldsAddress w n net = AgreeIn w net.bits net.base n

-- the addresses of w bits that these networks hold are those of the range
pub record AreNetworksOf (w first last : ℕ) (nets : List (Net ℕ)) : Type 0 where
  pub networks : All (IsNet w) nets
  pub exact : (n : ℕ) → n < 2 ^ w → IsInRange first last n ↔ Any (HoldsAddress w n) nets

-- one network, of addresses of w bits, ends before another begins
abbrev pub EndsBefore : ℕ → (x y : Net ℕ) → Type 0
EndsBefore w x y = x.base + 2 ^ (w - x.bits) ≤ y.base

-- all 2 ^ k numbers from b up lie in the range
abbrev pub is_block_in : (first last k b : ℕ) → Bool
is_block_in first last k b = leb first b && leb (b + 2 ^ k) (last + 1)

-- the network of w bits whose addresses are the 2 ^ k numbers from b up
abbrev pub block_net : (w k b : ℕ) → Net ℕ
block_net w k b = record { base = b; bits = w - k }

-- the largest networks, of addresses of w bits, within both a range and the 2 ^ k numbers from b up: these numbers, where all
-- are in the range, or else those of their halves
unfoldable pub networks_in : (w first last k b : ℕ) → List (Net ℕ)
networks_in w first last zero b = cond (is_block_in first last 0 b) (block_net w 0 b ∷ []) []
networks_in w first last (suc j) b = cond (is_block_in first last (suc j) b) (block_net w (suc j) b ∷ [])
    (networks_in w first last j b ++ networks_in w first last j (b + 2 ^ j))

-- the largest networks of addresses of w bits within a range, in order
abbrev pub networks_between : (w first last : ℕ) → List (Net ℕ)
networks_between w first last = networks_in w first last w 0

-- the networks of a range by its first and last address; none where there is no range
abbrev pub networks_left : {A : Type 0} → ℕ → (A → ℕ) → Option (A × A) → List (Net ℕ)
networks_left w number None = []
networks_left w number (Some r) = networks_between w (number r.0) (number r.1)
