-- Networks, each with its hop, and the longest of those that hold an address.
use Rattle.std.specs.Prelude.{◌≡◌, ◌⊎◌, ℕ, zero, suc, ◌≤◌, List, [], Option, Some, MatchOption, option_map}
use Rattle.std.proofs.Common.{refl}
use Rattle.std.specs.Coded.{Coded, code_by, coded_list, coded_ℕ, coded×}
use Rattle.std.specs.FinMap as map
use Rattle.nibble_map.specs.Maps.{PairMap, pair_map_code, value_at}
use Rattle.radix_keys.specs.Networks.{Net, IsBase, AgreeIn}
use Rattle.radix_trie.specs.Views.{pairs_below}
use Rattle.frozen_networks.specs.Networks.{IsMapOfNetworks, network_code, network_map}

-- a network and its hop
abbrev pub Route : Type 0 → Type 0
Route A = Net A × List ℕ

-- the routes of one family, each at the first bits of its network
abbrev pub Routes : Type 0 → Type 0
Routes A = PairMap (Net A) (List ℕ)

abbrev pub routes_code : {A : Type 0} → Coded A → Coded (Routes A)
routes_code {A} a =
    pair_map_code (code_by (A × ℕ) (coded× a coded_ℕ) (λ (n : Net A). (n.base, n.bits))
    (λ p. record { base = p.0; bits = p.1 }) (λ _. refl)) (coded_list coded_ℕ)

-- the routes in the order of their networks' bits
abbrev pub in_order : {A : Type 0} → Routes A → List (Route A)
in_order m = pairs_below m []

-- all routes, in order, or none of them
abbrev pub AreAllOrNone : {A : Type 0} → Routes A → List (Route A) → Type 0
AreAllOrNone m rows = (rows ≡ []) ⊎ (rows ≡ in_order m)

-- the hop of a route
abbrev pub hop_of : {A : Type 0} → Option (Route A) → Option (List ℕ)
hop_of found = option_map (λ r. r.1) found

-- addresses have w bits, and these numbers
module _ {A : Type 0} (w : ℕ) (number : A → ℕ) where
  -- the first bits of a network's addresses, those that they share
  abbrev pub place : Net A → List ℕ
  place net = network_code w number net

  -- each route stands at its network's place, and its base has 0 in each bit after the first bits
  abbrev pub AreNetworks : Routes A → Type 0
  AreNetworks m = IsMapOfNetworks w number m

  -- the routes of a table whose trie has so many, and holds these; where that is none, its rows are the routes
  abbrev pub held_by : ℕ → Routes A → List (Route A) → Routes A
  held_by zero m rows = network_map w number rows
  held_by (suc n) m rows = m

  abbrev pub held_routes : Routes A → List (Route A) → Routes A
  held_routes m rows = held_by (map.len m) m rows

  -- the routes are of networks, and the rows, if there are some, are all of them in order
  abbrev pub AreHeldRoutes : Routes A → List (Route A) → Type 0
  AreHeldRoutes m rows = AreNetworks (held_routes m rows) × AreAllOrNone (held_routes m rows) rows

  -- the network's hop
  abbrev pub hop_at : Routes A → Net A → Option (List ℕ)
  hop_at m net = value_at m (place net)

  -- the routes with this hop as the network's
  abbrev pub with_route : Routes A → Net A → List ℕ → Routes A
  with_route m net hop = map.insert m (place net) (net, hop)

  -- the routes without the network's
  abbrev pub without_route : Routes A → Net A → Routes A
  without_route m net = map.remove m (place net)

  -- the routes of the networks within this one, in the order of their bits
  abbrev pub routes_within : Routes A → Net A → List (Route A)
  routes_within m net = pairs_below m (place net)

  -- one of the routes, whose network holds the address of the number n
  pub record IsHolder (m : Routes A) (n : ℕ) (r : Route A) : Type 0 where
    pub stored : map.get m (place r.0) ≡ Some r
    pub base : IsBase w r.0.bits (number r.0.base)
    pub holds : AgreeIn w r.0.bits (number r.0.base) n

  -- the longest of the networks that hold it, and its hop, or None where none does
  abbrev pub IsLongestRoute : Routes A → ℕ → Option (Route A) → Type 0
  IsLongestRoute m n found = MatchOption found ((r : Route A) → ¬ (IsHolder m n r))
      (λ r. IsHolder m n r × ((s : Route A) → IsHolder m n s → s.0.bits ≤ r.0.bits))
