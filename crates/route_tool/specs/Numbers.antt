-- Hops as numbers: each by its place in a list of hops.
use Rattle.std.specs.Prelude.{◌≡◌, ℕ, ◌<◌, List, length, map, Some}
use Rattle.std.specs.Borrow.{Bor}
use Rattle.std.specs.List.{All, HoldsAt}
use Rattle.least_routes.specs.declared.routes.Route as least
use Rattle.nibble_map.specs.Maps.{PairMap, value_at}
use Rattle.nibble_map.specs.Nibbles.{nibbles}
use Rattle.radix_keys.specs.Networks.{Net}
use Rattle.route_tool.specs.Routes.{Route}

-- the numbers of hops by their bytes
abbrev pub Numbers : Type 0
Numbers = PairMap (Bor (List ℕ)) ℕ

-- the hop has this number
abbrev pub IsNumberOf : Numbers → List ℕ → ℕ → Type 0
IsNumberOf m hop n = value_at m (nibbles hop) ≡ Some n

-- each number is a place of its hop
abbrev pub ArePlaces : Numbers → List (Bor (List ℕ)) → Type 0
ArePlaces m hops = (hop : List ℕ) (n : ℕ) → IsNumberOf m hop n
    → (n < length hops) × HoldsAt (λ h. h.now ≡ hop) hops n

-- no hop has lost its number
abbrev pub AreKept : (old new : Numbers) → Type 0
AreKept old new = (hop : List ℕ) (n : ℕ) → IsNumberOf old hop n → IsNumberOf new hop n

module _ {A : Type 0} (number : A → ℕ) where
  -- the route with a number as its hop
  abbrev pub numbered : (List ℕ → ℕ) → Route A → least.Route
  numbered code r = record { base = number r.0.base; bits = r.0.bits; hop = code r.1 }

  -- the routes with their hops as numbers, each the place of the hop
  abbrev pub AreNumbered : List (Route A) → List least.Route → List (Bor (List ℕ)) → Type 0
  AreNumbered routes xs hops = (code : List ℕ → ℕ) × (xs ≡ map (numbered code) routes)
      × All (λ r. (code r.1 < length hops) × HoldsAt (λ h. h.now ≡ r.1) hops (code r.1)) routes

  -- the row has the route's network, and the hop at the place that the route has as its hop
  pub record IsRowOf (hops : List (Bor (List ℕ))) (row : Net A × Bor (List ℕ)) (x : least.Route)
      : Type 0 where
    pub base : number row.0.base ≡ x.base
    pub bits : row.0.bits ≡ x.bits
    pub hop : HoldsAt (λ h. row.1.now ≡ h.now) hops x.hop
