-- Lists of routes, and the least of those that give each address the hop that a table gives it.
use Rattle.std.specs.Prelude.{◌≡◌, ℕ, ◌^◌, ◌<◌, ◌≤◌, ◌⊎◌, ◌↔◌, List, length, Option, MatchOption}
use Rattle.std.specs.Borrow.{Bor}
use Rattle.std.specs.List.{All, AllPairs, Contains}
use Rattle.radix_keys.specs.Networks.{Net, IsBase, AgreeIn}
use Rattle.route_tool.specs.Routes.{Route, Routes, IsLongestRoute, hop_of}

-- a network and its hop by a reference
abbrev pub route_of : {A : Type 0} → Net A × Bor (List ℕ) → Route A
route_of r = (r.0, r.1.now)

-- addresses have w bits, and these numbers
module _ {A : Type 0} (w : ℕ) (number : A → ℕ) where
  -- the route's network holds the address of the number n
  abbrev pub Holds : ℕ → Route A → Type 0
  Holds n r = AgreeIn w r.0.bits n (number r.0.base)

  -- a route to the longest of the list's networks that hold the address, or None where none does
  abbrev pub IsLongestOf : List (Route A) → ℕ → Option (Route A) → Type 0
  IsLongestOf routes n found = MatchOption found (All (λ r. ¬ (Holds n r)) routes)
      (λ r. Contains routes r × Holds n r × All (λ s. Holds n s → s.0.bits ≤ r.0.bits) routes)

  -- the list gives the address this hop, or none
  abbrev pub ListGives : List (Route A) → ℕ → Option (List ℕ) → Type 0
  ListGives routes n hop =
      (found : Option (Route A)) × IsLongestOf routes n found × (hop ≡ hop_of found)

  -- the table gives the address this hop, or none
  abbrev pub TableGives : Routes A → ℕ → Option (List ℕ) → Type 0
  TableGives m n hop =
      (found : Option (Route A)) × IsLongestRoute w number m n found × (hop ≡ hop_of found)

  -- the list gives each address the hop that the table gives it, and no other
  abbrev pub GivesSameHops : Routes A → List (Route A) → Type 0
  GivesSameHops m routes = (n : ℕ) (hop : Option (List ℕ)) → n < 2 ^ w
      → ListGives routes n hop ↔ TableGives m n hop

  -- a route whose base has 0 in each bit that its network's addresses don't share
  abbrev pub IsToNetwork : Route A → Type 0
  IsToNetwork r = IsBase w r.0.bits (number r.0.base)

  -- its base is less, or the same with fewer bits
  abbrev pub IsRouteBefore : Route A → Route A → Type 0
  IsRouteBefore r s = (number r.0.base < number s.0.base)
      ⊎ ((number r.0.base ≡ number s.0.base) × (r.0.bits < s.0.bits))

  -- routes to networks, in strict order and so one for each network, with the hops that the table
  -- gives; no list of routes with these hops is shorter
  pub record IsAggregate (m : Routes A) (routes : List (Route A)) : Type 0 where
    pub networks : All IsToNetwork routes
    pub order : AllPairs IsRouteBefore routes
    pub same : GivesSameHops m routes
    pub least : (other : List (Route A)) → GivesSameHops m other → length routes ≤ length other
