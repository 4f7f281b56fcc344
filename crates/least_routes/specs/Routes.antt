-- What a list of routes answers for an address, and when two lists answer the same.
use Rattle.std.specs.Prelude.{◌≡◌, ℕ, ◌-◌, ◌/◌, ◌^◌, ◌<◌, ◌≤◌, ◌⊎◌, ◌↔◌, List, Option, Some, None}
use Rattle.std.specs.List.{All, Any, AllPairs}
use Rattle.radix_keys.specs.Networks.{IsBase, AgreeIn}
use Rattle.least_routes.specs.declared.routes.Route.{Route}

-- the route's network, of addresses of w bits, holds the address
abbrev pub HoldsNumber : ℕ → Route → ℕ → Type 0
HoldsNumber w route a = AgreeIn w route.bits a route.base

-- of the routes that hold the address none shares more bits
abbrev pub IsLongestIn : ℕ → List Route → ℕ → Route → Type 0
IsLongestIn w routes a route =
    HoldsNumber w route a × All (λ other. HoldsNumber w other a → other.bits ≤ route.bits) routes

-- the answer of a list for an address: the hop of its longest network that holds it, if one does
abbrev pub IsHopOf : ℕ → List Route → ℕ → Option ℕ → Type 0
IsHopOf w routes a None = All (λ route. ¬ HoldsNumber w route a) routes
IsHopOf w routes a (Some hop) =
    Any (λ route. IsLongestIn w routes a route × (route.hop ≡ hop)) routes

-- some route of the list has the hop
abbrev pub HasHop : List Route → ℕ → Type 0
HasHop routes hop = Any (λ route. route.hop ≡ hop) routes

-- two lists have the same answers for every address of w bits
abbrev pub HaveSameAnswers : ℕ → List Route → List Route → Type 0
HaveSameAnswers w xs ys =
    (a : ℕ) (o : Option ℕ) → a < 2 ^ w → IsHopOf w xs a o ↔ IsHopOf w ys a o

-- the route goes to a network of addresses of w bits
abbrev pub IsOfWidth : ℕ → Route → Type 0
IsOfWidth w route = IsBase w route.bits route.base

-- the route stands before the other: its base is less, or the same with fewer bits
abbrev pub IsSortedBefore : Route → Route → Type 0
IsSortedBefore x y = (x.base < y.base) ⊎ ((x.base ≡ y.base) × (x.bits < y.bits))

-- a table of routes to networks of w bits, in strict order: one route for each network
abbrev pub IsTable : ℕ → List Route → Type 0
IsTable w routes = All (IsOfWidth w) routes × AllPairs IsSortedBefore routes

-- the route goes to a network of the width in the block with number q, of those with n free bits
pub record IsWithin (w n q : ℕ) (route : Route) : Type 0 where
  pub of_width : IsOfWidth w route
  pub no_wider : w - route.bits ≤ n
  pub in_block : route.base / 2 ^ n ≡ q
