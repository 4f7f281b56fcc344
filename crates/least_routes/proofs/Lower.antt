-- No list of routes with the answers of a tree is shorter than what the tree costs.
use Rattle.std.proofs.Common.{◌≡◌, ℕ, zero, suc, ◌+◌, ◌-◌, ◌*◌, ◌/◌, ◌^◌, ◌<◌, ◌≤◌, ◌⊎◌, ◌∙◌, Bool, true, false, cond, ◌&&◌, ◌||◌, eqb, leb, List, [], ◌∷◌, length, Option, Some, None, sym, ap, subst, refl, inl, inr, arith}
use Rattle.std.specs.List.{All, Contains, count_by}
use Rattle.std.proofs.lemmas.Bool.{cases_lt, eq-eqb, and_from, le-leb, or_cases, false≢true}
use Rattle.std.proofs.lemmas.Bool.Decides.{nat_tests}
use Rattle.std.proofs.lemmas.List.Elements.{All-weaker, All-contains}
use Rattle.std.proofs.lemmas.List.Sums.{count_by-le-length}
use Rattle.std.proofs.Math.Nat.{zero-div}
use Rattle.least_routes.specs.declared.routes.Route.{Route}
use Rattle.least_routes.specs.Routes.{HoldsNumber}
use Rattle.least_routes.specs.Trees.{PlanTree, one, open_at, closed_at, Suits, is_open}
use Rattle.least_routes.proofs.BlockLemmas.{coarser, half-block, from_low, from_high, first_in}
use Rattle.least_routes.proofs.Competitors.{Above, IsOut, IsNoLonger, answer, move, own_or_above, is_own, is_inside, count_one, count_by-cons}
use Rattle.least_routes.proofs.Hops.{weight, miss, miss_at_most, miss_le_one, IsJoined}

-- tests of which one at most passes, and then another
count_three : (p q r s : Route → Bool)
    → ((x : Route) → cond (p x) 1 0 + cond (q x) 1 0 + cond (r x) 1 0 ≤ cond (s x) 1 0)
    → (xs : List Route) → count_by p xs + count_by q xs + count_by r xs ≤ count_by s xs
count_three p q r s each [] = omega arith
count_three p q r s each (x ∷ xs) =
    omega (
      arith,
      count_three p q r s each xs,
      each x,
      count_by-cons p x xs,
      count_by-cons q x xs,
      count_by-cons r x xs,
      count_by-cons s x xs,
    )

-- a network of a block is the block, or it lies in one half
apart : (k n q x y : ℕ) → y ≡ x / 2
    → cond (eqb k (suc n) && eqb y q) 1 0 + cond (leb k n && eqb x (2 * q)) 1 0 + cond
    (leb k n && eqb x (2 * q + 1)) 1 0
    ≤ cond (leb k (suc n) && eqb y q) 1 0
apart k n q x y e = grind (arith, nat_tests)

-- the routes to a block, and those in its halves
count_halves : (w n q : ℕ) (routes : List Route)
    → count_by (is_own w (suc n) q) routes + count_by (is_inside w n (2 * q)) routes + count_by
    (is_inside w n (2 * q + 1)) routes
    ≤ count_by (is_inside w (suc n) q) routes
count_halves w n q routes =
    count_three (is_own w (suc n) q) (is_inside w n (2 * q)) (is_inside w n (2 * q + 1))
    (is_inside w (suc n) q)
    (λ r. apart (w - r.bits) n q (r.base / 2 ^ n) (r.base / 2 ^ suc n) (half-block r.base n)) routes

-- the answers of the list in the block are those of F
abbrev pub Serves : (w n q : ℕ) → (ℕ → Option ℕ) → List Route → Type 0
Serves w n q F routes = (a : ℕ) (o : Option ℕ) → a / 2 ^ n ≡ q → Above w 0 routes a o → F a ≡ o

-- so many routes are no fewer than the tree costs under what is given from above
abbrev pub Bounds : PlanTree → Option ℕ → ℕ → Type 0
Bounds t o c = (is_open t ≡ true → o ≡ None) × (weight t + miss t o ≤ c)

-- an open block bounds no less than its halves
open_bound : (low high : PlanTree) (o : Option ℕ) (c d e : ℕ) → (is_open low || is_open high) ≡ true
    → Bounds low o d → Bounds high o e → d + e ≤ c
    → Bounds (open_at low high) o c
open_bound low high None c d e some l h le = ((λ _. refl), omega (arith, l.1, h.1))
open_bound low high (Some hop) c d e some l h le =
    let no : Some hop ≡ None = elim (or_cases (is_open low)
    (is_open high) some) [ inl x ↦ l.0 x | inr x ↦ h.0 x ] in cc

-- a block whose one answer stands above it costs nothing
wider_bound : (w n q : ℕ) (F : ℕ → Option ℕ) (routes : List Route) (a h : ℕ) (o : Option ℕ)
    → Serves w n q F routes → a / 2 ^ n ≡ q → F a ≡ Some h
    → (r : Route) → Contains routes r → n < w - r.bits → HoldsNumber w r a → All
    (IsNoLonger w 0 a r.bits) routes
    → Above w (suc n) routes a o → 0 + miss (one (Some h)) o ≤ count_by (is_inside w n q) routes
wider_bound w n q F routes a h None serves e f r within wider holds all up =
    absurd (All-contains (IsOut w (suc n) a) routes r up within wider holds)
wider_bound w n q F routes a h (Some k) serves e f r within wider holds all
    (s, within', wide', holds', e', all') =
    let le : r.bits ≤ s.bits = All-contains
    (IsNoLonger w (suc n) a s.bits) routes r all' within wider holds in
    let found : Above w 0 routes a (Some k) = (
      s,
      within',
      omega arith,
      holds',
      e',
      All-weaker (IsNoLonger w 0 a r.bits) (IsNoLonger w 0 a s.bits)
          (λ x g i j. let d : x.bits ≤ r.bits = g i j in omega arith) routes all,
    ) in
    let g : F a ≡ Some k = serves a (Some k) e found in
    let same : h ≡ k = cc in
    let t : (eqb h k || false) ≡ true = rw (eq-eqb h k same) refl in
    omega (arith, ap {B = ℕ} (λ b. cond b 0 1) t)

-- the least cost of a block with one answer
leaf_bound : (w n q : ℕ) (F : ℕ → Option ℕ) (routes : List Route) (a : ℕ) (c o : Option ℕ)
    → Serves w n q F routes → a / 2 ^ n ≡ q → F a ≡ c
    → Above w 0 routes a c → Above w (suc n) routes a o → Bounds (one c) o
    (count_by (is_inside w n q) routes)
leaf_bound w n q F routes a None None serves e f found up = ((λ _. refl), omega arith)
leaf_bound w n q F routes a None (Some h) serves e f found (r, within, wide, holds, _, _) =
    absurd (All-contains (IsOut w 0 a) routes r found within (omega arith) holds)
leaf_bound w n q F routes a (Some h) o serves e f (r, within, wide, holds, eh, all) up = (
  (λ t. absurd (false≢true t)),
  elim (cases_lt n (w - r.bits)) [
    | inl wider ↦ wider_bound w n q F routes a h o serves e f r within wider holds all up
    | inr narrow ↦ (
        let b : r.base / 2 ^ n ≡ q = coarser r.base a (w - r.bits) n narrow (sym holds) ∙ e in
        omega (
          arith,
          miss_le_one (one (Some h)) o,
          count_one (is_inside w n q) routes r within
              (and_from _ _ (le-leb (w - r.bits) n narrow) (eq-eqb (r.base / 2 ^ n) q b)),
        )
        )
  ],
)

-- the answers in the lower half
serves_low : (w n q : ℕ) (F : ℕ → Option ℕ) (routes : List Route) → Serves w (suc n) q F routes
    → Serves w n (2 * q) F routes
serves_low w n q F routes serves a o e = serves a o (from_low a n q e)

-- the answers in the upper half
serves_high : (w n q : ℕ) (F : ℕ → Option ℕ) (routes : List Route) → Serves w (suc n) q F routes
    → Serves w n (2 * q + 1) F routes
serves_high w n q F routes serves a o e = serves a o (from_high a n q e)

-- the lower half under what stands above both
move_low : (w n q : ℕ) (routes : List Route) (a : ℕ) (o : Option ℕ) → a / 2 ^ suc n ≡ q
    → Above w (suc n) routes a o → Above w (suc n) routes (2 * q * 2 ^ n) o
move_low w n q routes a o e up =
    move w (suc n) routes a (2 * q * 2 ^ n) o
    (e ∙ sym (from_low (2 * q * 2 ^ n) n q (first_in n (2 * q)))) up

-- the upper half under what stands above both
move_high : (w n q : ℕ) (routes : List Route) (a : ℕ) (o : Option ℕ) → a / 2 ^ suc n ≡ q
    → Above w (suc n) routes a o → Above w (suc n) routes ((2 * q + 1) * 2 ^ n) o
move_high w n q routes a o e up =
    move w (suc n) routes a ((2 * q + 1) * 2 ^ n) o
    (e ∙ sym (from_high ((2 * q + 1) * 2 ^ n) n q (first_in n (2 * q + 1)))) up

-- a closed block bounds no less than its halves
closed_bound : (hops : List ℕ) (low high : PlanTree) (o p : Option ℕ) (c d e : ℕ)
    → IsJoined hops low high
    → Bounds low p d → Bounds high p e → (o ≡ p) × (d + e ≤ c) ⊎ (suc (d + e) ≤ c) → Bounds
    (closed_at hops low high) o c
closed_bound hops low high o p c d e j l h either = (
  (λ t. absurd (false≢true t)),
  elim either [
    | inl same ↦ omega (
      arith,
      l.1,
      h.1,
      same.1,
      miss_at_most hops low high p j,
      ap
          (miss (closed_at hops low high)) same.0,
    )
    | inr own ↦ omega (
      arith,
      l.1,
      h.1,
      own,
      miss_at_most hops low high p j,
      miss_le_one
          (closed_at hops low high) o,
    )
  ],
)

-- the tree bounds the routes to a block from below
pub lower : (w : ℕ) (F : ℕ → Option ℕ) (routes : List Route) (t : PlanTree) (n q a : ℕ) (o : Option ℕ)
    → Suits n q F t → Serves w n q F routes → a / 2 ^ n ≡ q
    → Above w (suc n) routes a o → Bounds t o (count_by (is_inside w n q) routes)
lower w F routes (one c) n q a o suits serves e up =
    let found = answer w 0 routes a in
    let same : found.0 ≡ c = sym (serves a found.0 e found.1) ∙ suits a e in
    leaf_bound w n q F routes a c o serves e (suits a e)
    (subst (Above w 0 routes a) same found.1) up
lower w F routes (open_at low high) zero q a o suits serves e up = absurd suits
lower w F routes (open_at low high) (suc n) q a o suits serves e up =
    let c = count_by (is_inside w (suc n) q) routes in
    let d = count_by (is_inside w n (2 * q)) routes in
    let f = count_by (is_inside w n (2 * q + 1)) routes in
    elim (own_or_above w (suc n) q routes a o e up) [
      | inl same ↦ open_bound low high o c d f suits.0
          (lower w F routes low n (2 * q) (2 * q * 2 ^ n) o suits.1
          (serves_low w n q F routes serves) (first_in n (2 * q))
          (move_low w n q routes a o e same))
          (lower w F routes high n (2 * q + 1) ((2 * q + 1) * 2 ^ n) o suits.2
          (serves_high w n q F routes serves) (first_in n (2 * q + 1))
          (move_high w n q routes a o e same))
          (omega (arith, count_halves w n q routes))
      | inr own ↦ (
          let p = Some own.0 in
          let none = open_bound low high p (d + f) d f suits.0
          (lower w F routes low n (2 * q) (2 * q * 2 ^ n) p suits.1
          (serves_low w n q F routes serves) (first_in n (2 * q))
          (move_low w n q routes a p e own.1))
          (lower w F routes high n (2 * q + 1) ((2 * q + 1) * 2 ^ n) p suits.2
          (serves_high w n q F routes serves) (first_in n (2 * q + 1))
          (move_high w n q routes a p e own.1))
          (omega arith) in
          let no : p ≡ None = none.0 refl in absurd (cc)
          )
    ]
lower w F routes (closed_at hops low high) zero q a o suits serves e up = absurd suits
lower w F routes (closed_at hops low high) (suc n) q a o suits serves e up =
    let c = count_by (is_inside w (suc n) q) routes in
    let d = count_by (is_inside w n (2 * q)) routes in
    let f = count_by (is_inside w n (2 * q + 1)) routes in
    let j : IsJoined hops low high = record { low_closed = suits.0; high_closed = suits.1; best = suits.2 } in
    elim (own_or_above w (suc n) q routes a o e up) [
      | inl same ↦ closed_bound hops low high o o c d f j
          (lower w F routes low n (2 * q) (2 * q * 2 ^ n) o suits.3
          (serves_low w n q F routes serves) (first_in n (2 * q))
          (move_low w n q routes a o e same))
          (lower w F routes high n (2 * q + 1) ((2 * q + 1) * 2 ^ n) o suits.4
          (serves_high w n q F routes serves) (first_in n (2 * q + 1))
          (move_high w n q routes a o e same))
          (inl (refl, omega (arith, count_halves w n q routes)))
      | inr own ↦ (
          let p = Some own.0 in
          closed_bound hops low high o p c d f j
          (lower w F routes low n (2 * q) (2 * q * 2 ^ n) p suits.3
          (serves_low w n q F routes serves) (first_in n (2 * q))
          (move_low w n q routes a p e own.1))
          (lower w F routes high n (2 * q + 1) ((2 * q + 1) * 2 ^ n) p suits.4
          (serves_high w n q F routes serves) (first_in n (2 * q + 1))
          (move_high w n q routes a p e own.1))
          (inr (omega (arith, own.2, count_halves w n q routes)))
          )
    ]

-- no list of routes with the answers of the tree of all addresses is shorter than the tree costs
pub least_length : (w : ℕ) (F : ℕ → Option ℕ) (routes : List Route) (t : PlanTree) → Suits w 0 F t
    → Serves w w 0 F routes → weight t + miss t None ≤ length routes
least_length w F routes t suits serves =
    let none : Above w (suc w) routes 0 None = λ k d lt wide. absurd (omega arith) in
    let bound = lower w F routes t w 0 0 None suits serves (zero-div (2 ^ w)) none in
    omega (arith, bound.1, count_by-le-length (is_inside w w 0) routes)
