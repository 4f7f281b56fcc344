-- Trees over the bits of an address, with the hops that are best given from above.
use Rattle.std.specs.Prelude.{◌≡◌, ℕ, zero, suc, ◌+◌, ◌-◌, ◌*◌, ◌/◌, ◌^◌, ◌==◌, ◌<◌, ◌||◌, ◌&&◌, slice_index, Bool, true, false, cond, List, [], ◌∷◌, ◌++◌, length, Option, Some, None}
use Rattle.std.specs.List.{filter, list_any}
use Rattle.std.specs.List.Sorted.{IsNonDecreasing}
use Rattle.least_routes.specs.declared.routes.Route.{Route}

-- a block of addresses: one answer for all; or two halves, of which some address has no answer; or
-- two halves where each address has one, with the hops that cost least when given from above
pub data PlanTree : Type 0 where
  one : Option ℕ → PlanTree
  open_at : PlanTree → PlanTree → PlanTree
  closed_at : List ℕ → PlanTree → PlanTree → PlanTree

-- the hop is among these
abbrev pub has : List ℕ → ℕ → Bool
has hops hop = list_any (λ x. x == hop) hops

-- the hops of both lists
abbrev pub shared : List ℕ → List ℕ → List ℕ
shared xs ys = filter (λ x. has ys x) xs

-- the hops that are best for a block of two halves: those that are best for both, or where none is,
-- for either
pub record IsBest (low high hops : List ℕ) : Type 0 where
  pub some : 0 < length hops
  pub rise : IsNonDecreasing hops
  pub members : (hop : ℕ)
      → has hops hop ≡ cond (length (shared low high) == 0) (has low hop || has high hop)
      (has low hop && has high hop)

-- some address of the block has no answer
abbrev pub is_open : PlanTree → Bool
is_open (one None) = true
is_open (one (Some hop)) = false
is_open (open_at low high) = true
is_open (closed_at hops low high) = false

-- the hops that cost least when given from above
abbrev pub hops_of : PlanTree → List ℕ
hops_of (one None) = []
hops_of (one (Some hop)) = hop ∷ []
hops_of (open_at low high) = []
hops_of (closed_at hops low high) = hops

-- the best hops of a block rise, and there is one where each address has an answer
abbrev pub IsReady : PlanTree → Type 0
IsReady t = IsNonDecreasing (hops_of t) × (is_open t ≡ false → 0 < length (hops_of t))

-- the tree of a block has these two halves
abbrev pub IsJoint : (low high t : PlanTree) → Type 0
IsJoint low high (one o) = ⊥
IsJoint low high (open_at l h) = (l ≡ low) × (h ≡ high) × ((is_open low || is_open high) ≡ true)
IsJoint low high (closed_at hops l h) =
    (l ≡ low) × (h ≡ high) × (is_open low ≡ false) × (is_open high ≡ false)
    × IsBest (hops_of low) (hops_of high) hops

-- the tree of the block with number q, of those with n free bits, has the answers of F
abbrev pub Suits : (n q : ℕ) → (ℕ → Option ℕ) → PlanTree → Type 0
Suits n q F (one o) = (a : ℕ) → a / 2 ^ n ≡ q → F a ≡ o
Suits zero q F (open_at low high) = ⊥
Suits (suc n) q F (open_at low high) =
    ((is_open low || is_open high) ≡ true) × Suits n (2 * q) F low × Suits n (2 * q + 1) F high
Suits zero q F (closed_at hops low high) = ⊥
Suits (suc n) q F (closed_at hops low high) =
    (is_open low ≡ false) × (is_open high ≡ false) × IsBest (hops_of low) (hops_of high) hops
    × Suits n (2 * q) F low × Suits n (2 * q + 1) F high

-- the hop that stands below the root of a block where each address has an answer
abbrev pub given : List ℕ → Option ℕ → ℕ
given hops None = slice_index hops 0
given hops (Some hop) = cond (has hops hop) hop (slice_index hops 0)

-- the route to a block, by the first of some hops
abbrev pub root_route : (w n q : ℕ) → List ℕ → Route
root_route w n q hops = record { base = q * 2 ^ n; bits = w - n; hop = slice_index hops 0 }

-- the route at the root of such a block, where the hop from above is none of the best
abbrev pub at_root : (w n q : ℕ) → List ℕ → Option ℕ → List Route
at_root w n q hops None = root_route w n q hops ∷ []
at_root w n q hops (Some hop) = cond (has hops hop) [] (root_route w n q hops ∷ [])

-- the routes that are chosen for the block with number q, under what is given from above
abbrev pub chosen : (w n q : ℕ) → PlanTree → Option ℕ → List Route
chosen w n q (one None) o = []
chosen w n q (one (Some hop)) o = at_root w n q (hop ∷ []) o
chosen w zero q (open_at low high) o = []
chosen w (suc n) q (open_at low high) o =
    chosen w n (2 * q) low None ++ chosen w n (2 * q + 1) high None
chosen w zero q (closed_at hops low high) o = []
chosen w (suc n) q (closed_at hops low high) o =
    at_root w (suc n) q hops o
    ++ (chosen w n (2 * q) low (Some (given hops o))
    ++ chosen w n (2 * q + 1) high (Some (given hops o)))

-- the answer of the last route that holds the address, or what stands above
abbrev pub last_answer : ℕ → Option ℕ → List Route → ℕ → Option ℕ
last_answer w o [] a = o
last_answer w o (r ∷ rs) a =
    last_answer w (cond (a / 2 ^ (w - r.bits) == r.base / 2 ^ (w - r.bits)) (Some r.hop) o) rs a

-- the tree is no deeper than n, and has a hop wherever it needs one
abbrev pub IsSound : ℕ → PlanTree → Type 0
IsSound n (one o) = Unit {0}
IsSound zero (open_at low high) = ⊥
IsSound (suc n) (open_at low high) = IsSound n low × IsSound n high
IsSound zero (closed_at hops low high) = ⊥
IsSound (suc n) (closed_at hops low high) =
    (0 < length hops) × IsNonDecreasing hops × IsSound n low × IsSound n high
