-- Any list of routes, seen from a block of addresses.
use Rattle.std.proofs.Common.{◌≡◌, ℕ, zero, suc, ◌+◌, ◌-◌, ◌/◌, ◌^◌, ◌<◌, ◌≤◌, ◌⊎◌, ◌∙◌, Bool, true, cond, ◌&&◌, eqb, leb, List, [], ◌∷◌, Option, Some, None, sym, ap, subst, refl, inl, inr, arith}
use Rattle.std.specs.List.{All, Contains, count_by}
use Rattle.std.proofs.lemmas.Bool.{cases_eq, cases_lt, eq-eqb, and_from}
use Rattle.std.proofs.lemmas.List.Elements.{All-nil, All-cons, All-weaker, All-contains}
use Rattle.std.proofs.lemmas.List.Sums.{sum_by-cons}
use Rattle.least_routes.specs.declared.routes.Route.{Route}
use Rattle.least_routes.specs.Routes.{HoldsNumber}
use Rattle.least_routes.proofs.BlockLemmas.{coarser}

-- the network, if it has at least n free bits, doesn't hold the address
abbrev pub IsOut : (w n a : ℕ) → Route → Type 0
IsOut w n a r = n ≤ w - r.bits → ¬ HoldsNumber w r a

-- the network, if it has at least n free bits and holds the address, shares no more bits than these
abbrev pub IsNoLonger : (w n a bits : ℕ) → Route → Type 0
IsNoLonger w n a bits r = n ≤ w - r.bits → HoldsNumber w r a → r.bits ≤ bits

-- the answer for an address among the networks of at least so many free bits
abbrev pub Above : (w n : ℕ) → List Route → ℕ → Option ℕ → Type 0
Above w n routes a None = All (IsOut w n a) routes
Above w n routes a (Some hop) =
    (r : Route) × Contains routes r × (n ≤ w - r.bits) × HoldsNumber w r a × (r.hop ≡ hop)
    × All (IsNoLonger w n a r.bits) routes

-- the first of a list is in it
Contains-here : (r : Route) (rs : List Route) → Contains (r ∷ rs) r
Contains-here r rs = (0, omega arith, refl)

-- what is in a list is in a longer one
Contains-there : (r : Route) (rs : List Route) (s : Route) → Contains rs s → Contains (r ∷ rs) s
Contains-there r rs s (k, lt, e) = (suc k, omega arith, e)

-- a route that isn't counted changes no answer
pass : (w n : ℕ) (r : Route) (rs : List Route) (a : ℕ) (o : Option ℕ)
    → (n ≤ w - r.bits → ¬ HoldsNumber w r a) → Above w n rs a o → Above w n (r ∷ rs) a o
pass w n r rs a None out all = All-cons (IsOut w n a) r rs out all
pass w n r rs a (Some hop) out (s, within, wide, holds, e, all) = (
  s,
  Contains-there r rs s within,
  wide,
  holds,
  e,
  All-cons (IsNoLonger w n a s.bits) r rs (λ h k. absurd (out h k)) all,
)

-- a route that is counted is the answer, or what was stays so
take_in : (w n : ℕ) (r : Route) (rs : List Route) (a : ℕ) (o : Option ℕ) → n ≤ w - r.bits
    → HoldsNumber w r a → Above w n rs a o
    → (p : Option ℕ) × Above w n (r ∷ rs) a p
take_in w n r rs a None wide holds all = (
  Some r.hop,
  (
    r,
    Contains-here r rs,
    wide,
    holds,
    refl,
    All-cons (IsNoLonger w n a r.bits) r rs (λ _ _. omega arith)
        (All-weaker (IsOut w n a) (IsNoLonger w n a r.bits) (λ x out h k. absurd (out h k)) rs all),
  ),
)
take_in w n r rs a (Some hop) wide holds (s, within, wide', holds', e, all) =
    elim (cases_lt s.bits r.bits) [
      | inl lt ↦ (
        Some r.hop,
        (
          r,
          Contains-here r rs,
          wide,
          holds,
          refl,
          All-cons (IsNoLonger w n a r.bits) r rs (λ _ _. omega arith)
              (All-weaker (IsNoLonger w n a s.bits) (IsNoLonger w n a r.bits)
              (λ x le h k. let d : x.bits ≤ s.bits = le h k in omega arith) rs all),
        ),
      )
      | inr ge ↦ (
        Some hop,
        (
          s,
          Contains-there r rs s within,
          wide',
          holds',
          e,
          All-cons (IsNoLonger w n a s.bits) r rs (λ _ _. ge) all,
        ),
      )
    ]

-- each address has an answer
pub answer : (w n : ℕ) (routes : List Route) (a : ℕ) → (o : Option ℕ) × Above w n routes a o
answer w n [] a = (None, All-nil (IsOut w n a))
answer w n (r ∷ rs) a =
    let rest = answer w n rs a in
    elim (cases_lt (w - r.bits) n) [
      | inl narrow ↦ (rest.0, pass w n r rs a rest.0 (λ wide. absurd (omega arith)) rest.1)
      | inr wide ↦ elim (cases_eq (a / 2 ^ (w - r.bits)) (r.base / 2 ^ (w - r.bits))) [
        | inl holds ↦ take_in w n r rs a rest.0 wide holds rest.1
        | inr other ↦ (rest.0, pass w n r rs a rest.0 (λ _. other) rest.1)
      ]
    ]

-- the addresses of a block have one answer among networks that are no less
pub move : (w n : ℕ) (routes : List Route) (a b : ℕ) (o : Option ℕ) → a / 2 ^ n ≡ b / 2 ^ n
    → Above w n routes a o → Above w n routes b o
move w n routes a b None e all =
    All-weaker (IsOut w n a) (IsOut w n b)
    (λ s out wide holds. out wide (coarser a b n (w - s.bits) wide e ∙ holds)) routes all
move w n routes a b (Some hop) e (r, within, wide, holds, h, all) = (
  r,
  within,
  wide,
  coarser b a n (w - r.bits) wide (sym e) ∙ holds,
  h,
  All-weaker (IsNoLonger w n a r.bits) (IsNoLonger w n b r.bits)
      (λ x le wide' holds'. le wide' (coarser a b n (w - x.bits) wide' e ∙ holds')) routes all,
)

-- the network is the block
abbrev pub is_own : (w n q : ℕ) → Route → Bool
is_own w n q r = eqb (w - r.bits) n && eqb (r.base / 2 ^ n) q

-- the network lies in the block
abbrev pub is_inside : (w n q : ℕ) → Route → Bool
is_inside w n q r = leb (w - r.bits) n && eqb (r.base / 2 ^ n) q

-- the count of a list by its first item
pub count_by-cons : (p : Route → Bool) (r : Route) (rs : List Route)
    → count_by p (r ∷ rs) ≡ cond (p r) 1 0 + count_by p rs
count_by-cons p r rs = sum_by-cons (λ x. cond (p x) 1 0) r rs

-- what passes a test counts
pub count_one : (p : Route → Bool) (rs : List Route) (r : Route) → Contains rs r → p r ≡ true
    → 1 ≤ count_by p rs
count_one p [] r (k, lt, e) h = absurd (omega arith)
count_one p (x ∷ xs) r (zero, lt, e) h =
    omega (arith, count_by-cons p x xs, ap {B = ℕ} (λ b. cond b 1 0) (ap p e ∙ h))
count_one p (x ∷ xs) r (suc k, lt, e) h =
    omega (arith, count_by-cons p x xs, count_one p xs r (k, omega arith, e) h)

-- the answer from above stands where the longest network is wider than the block
still : (w n : ℕ) (routes : List Route) (a : ℕ) (o : Option ℕ) (r : Route) → Contains routes r
    → n < w - r.bits → HoldsNumber w r a
    → All (IsNoLonger w n a r.bits) routes → Above w (suc n) routes a o → Above w n routes a o
still w n routes a None r within wider holds all up =
    absurd (All-contains (IsOut w (suc n) a) routes r up within wider holds)
still w n routes a (Some h) r within wider holds all (r', within', wide', holds', e', all') =
    let le : r.bits ≤ r'.bits = All-contains
    (IsNoLonger w (suc n) a r'.bits) routes r all' within wider holds in (
      r',
      within',
      omega arith,
      holds',
      e',
      All-weaker (IsNoLonger w n a r.bits) (IsNoLonger w n a r'.bits)
          (λ x f h k. let d : x.bits ≤ r.bits = f h k in omega arith) routes all,
    )

-- the same, by the answer among the networks that are no less than the block
own_cases : (w n q : ℕ) (routes : List Route) (a : ℕ) (o p : Option ℕ) → a / 2 ^ n ≡ q
    → Above w (suc n) routes a o → Above w n routes a p
    → Above w n routes a o ⊎ ((hop : ℕ) × Above w n routes a
    (Some hop) × (1 ≤ count_by (is_own w n q) routes))
own_cases w n q routes a None None e up low = inl low
own_cases w n q routes a (Some h) None e (r, within, wide, holds, _, _) low =
    absurd (All-contains (IsOut w n a) routes r low within (omega arith) holds)
own_cases w n q routes a o (Some h) e up (r, within, wide, holds, eh, all) =
    elim (cases_lt n (w - r.bits)) [
      | inl wider ↦ inl (still w n routes a o r within wider holds all up)
      | inr narrow ↦ (
          let d : w - r.bits ≡ n = omega arith in
          let b : r.base / 2 ^ n ≡ q = sym (subst (λ t. a / 2 ^ t ≡ r.base / 2 ^ t) d holds) ∙ e in
          inr (
            h,
            (r, within, wide, holds, eh, all),
            count_one (is_own w n q) routes r within
                (and_from _ _ (eq-eqb (w - r.bits) n d) (eq-eqb (r.base / 2 ^ n) q b)),
          )
          )
    ]

-- the answer from above stands in a block, or the block itself is a network of the list
pub own_or_above : (w n q : ℕ) (routes : List Route) (a : ℕ) (o : Option ℕ) → a / 2 ^ n ≡ q
    → Above w (suc n) routes a o
    → Above w n routes a o ⊎ ((hop : ℕ) × Above w n routes a
    (Some hop) × (1 ≤ count_by (is_own w n q) routes))
own_or_above w n q routes a o e up =
    let found = answer w n routes a in own_cases w n q routes a o found.0 e up found.1
