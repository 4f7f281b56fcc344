-- The routes within a block, in order: those of its halves.
use Rattle.std.proofs.Common.{◌≡◌, ◌≢◌, ℕ, zero, suc, ◌+◌, ◌-◌, ◌*◌, ◌/◌, ◌^◌, ◌<◌, ◌≤◌, ◌∙◌, cond, true, false, ltb, min, take, drop, List, ◌∷◌, ◌++◌, length, get_or, Option, Some, sym, ap, subst, refl, inl, inr, arith}
use Rattle.std.specs.List.{All, AllPairs}
use Rattle.std.specs.List.Sorted.{IsNonDecreasingBy, IsPartitionPoint}
use Rattle.std.proofs.lemmas.List.{length-take, length-drop, get_or-take, get_or-drop}
use Rattle.std.proofs.lemmas.Bool.{cases_lt, eq-eqb, ltb-true, ltb-false}
use Rattle.std.proofs.lemmas.Nat.{shr_split, mod_below, pow_pos}
use Rattle.std.proofs.lemmas.List.Elements.{All-cons, All-head, All-tail}
use Rattle.least_routes.specs.declared.routes.Route.{Route}
use Rattle.least_routes.specs.Routes.{IsWithin, IsSortedBefore}
use Rattle.least_routes.specs.Trees.{PlanTree, one, open_at, closed_at, Suits, IsJoint, last_answer}
use Rattle.least_routes.proofs.BlockLemmas.{in_half, from_low, from_high}
use Rattle.least_routes.proofs.Tables.{nested, pairs_head}
use Rattle.least_routes.proofs.Upper.{last_answer-append, last_answer-none, holds_none}

-- where the first isn't the route to the block, each goes to a network in one of its halves
pub narrow : (w n q : ℕ) (x : Route) (xs : List Route) → n ≤ w → All (IsWithin w n q) (x ∷ xs)
    → AllPairs IsSortedBefore (x ∷ xs) → x.bits ≢ w - n
    → All (λ r. w - r.bits < n) (x ∷ xs)
narrow w n q x xs le all pairs other =
    let here : IsWithin w n q x = All-head (IsWithin w n q) x xs all in
    let first : w - x.bits < n = omega (arith, here.no_wider, here.of_width.1) in
    All-cons (λ r. w - r.bits < n) x xs first
    (λ k d lt.
    let r = get_or xs k d in
    let at : IsWithin w n q r = All-tail (IsWithin w n q) x xs all k d lt in
    elim (cases_lt (w - r.bits) n) [
      | inl less ↦ less
      | inr more ↦ (
          let same : n ≡ w - r.bits = omega (arith, at.no_wider) in
          let holds : x.base / 2 ^ (w - r.bits) ≡ r.base / 2 ^ (w - r.bits) =
          subst (λ t. x.base / 2 ^ t ≡ r.base / 2 ^ t) same (here.in_block ∙ sym at.in_block) in
          absurd (omega (arith, at.of_width.1, nested w x r x.base here.of_width at.of_width refl holds (pairs_head x xs pairs k d lt)))
          )
    ])

-- a network below the middle of a block is in the lower half
pub in_low : (w n q : ℕ) (r : Route) → IsWithin w n q r → w - r.bits < n
    → r.base < (2 * q + 1) * 2 ^ (n - 1) → IsWithin w (n - 1) (2 * q) r
in_low w zero q r at less below = absurd (omega arith)
in_low w (suc n) q r at less below =
    let e : n ≡ suc n - 1 = omega arith in
    let low : r.base < (2 * q + 1) * 2 ^ n = subst (λ t. r.base < (2 * q + 1) * 2 ^ t)
    (sym e) below in
    let half : r.base / 2 ^ n ≡ 2 * q = elim (in_half r.base n q at.in_block) [
      | inl l ↦ l
      | inr h ↦ absurd (omega (arith, shr_split r.base n, ap (λ t. t * 2 ^ n) h))
    ] in
    subst (λ t. IsWithin w t (2 * q) r) e
    (record { of_width = at.of_width; no_wider = omega arith; in_block = half })

-- a network from the middle of a block on is in the upper half
pub in_high : (w n q : ℕ) (r : Route) → IsWithin w n q r → w - r.bits < n
    → (2 * q + 1) * 2 ^ (n - 1) ≤ r.base → IsWithin w (n - 1) (2 * q + 1) r
in_high w zero q r at less above = absurd (omega arith)
in_high w (suc n) q r at less above =
    let e : n ≡ suc n - 1 = omega arith in
    let high : (2 * q + 1) * 2 ^ n ≤ r.base = subst (λ t. (2 * q + 1) * 2 ^ t ≤ r.base)
    (sym e) above in
    let half : r.base / 2 ^ n ≡ 2 * q + 1 = elim (in_half r.base n q at.in_block) [
      | inl l ↦ absurd (omega (
        arith,
        shr_split r.base n,
        ap (λ t. t * 2 ^ n) l,
        mod_below r.base
            (2 ^ n) (pow_pos n),
      ))
      | inr h ↦ h
    ] in
    subst (λ t. IsWithin w t (2 * q + 1) r) e
    (record { of_width = at.of_width; no_wider = omega arith; in_block = half })

-- the bases of routes in order rise
pub bases_rise : (xs : List Route) → AllPairs IsSortedBefore xs → IsNonDecreasingBy (λ r. r.base) xs
bases_rise xs pairs i j d le lt =
    elim (cases_lt i j) [
      | inl less ↦ no_less (get_or xs i d) (get_or xs j d) (pairs i j d less lt)
      | inr ge ↦ (let same : i ≡ j = omega arith in subst
          (λ t. (get_or xs i d).base ≤ (get_or xs t d).base) same (omega arith))
    ]
  where
    no_less : (x y : Route) → IsSortedBefore x y → x.base ≤ y.base
    no_less x y (inl less) = omega arith
    no_less x y (inr same) = omega (arith, same.0)

-- a tree has the answers of what answers the same
pub suits_same : (F G : ℕ → Option ℕ) (t : PlanTree) (n q : ℕ) → ((a : ℕ) → a / 2 ^ n ≡ q → F a ≡ G a)
    → Suits n q F t → Suits n q G t
suits_same F G (one o) n q same suits = λ a e. sym (same a e) ∙ suits a e
suits_same F G (open_at low high) zero q same suits = absurd suits
suits_same F G (open_at low high) (suc n) q same suits = (
  suits.0,
  suits_same F G low n (2 * q) (λ a e. same a (from_low a n q e)) suits.1,
  suits_same F G high n (2 * q + 1) (λ a e. same a (from_high a n q e)) suits.2,
)
suits_same F G (closed_at hops low high) zero q same suits = absurd suits
suits_same F G (closed_at hops low high) (suc n) q same suits = (
  suits.0,
  suits.1,
  suits.2,
  suits_same F G low n (2 * q) (λ a e. same a (from_low a n q e)) suits.3,
  suits_same F G high n (2 * q + 1) (λ a e. same a (from_high a n q e)) suits.4,
)

-- the tree of a block below the route to it
pub suits_own : (w n q : ℕ) (o : Option ℕ) (x : Route) (xs : List Route) (t : PlanTree) → n ≤ w
    → IsWithin w n q x → x.bits ≡ w - n
    → Suits n q (last_answer w (Some x.hop) xs) t → Suits n q (last_answer w o (x ∷ xs)) t
suits_own w n q o x xs t le at own suits =
    suits_same (last_answer w (Some x.hop) xs) (last_answer w o (x ∷ xs)) t n q
    (λ a e.
    let k : n ≡ w - x.bits = omega arith in
    let holds : a / 2 ^ (w - x.bits) ≡ x.base / 2 ^ (w - x.bits) = subst
    (λ t. a / 2 ^ t ≡ x.base / 2 ^ t) k (e ∙ sym at.in_block) in
    sym (ap (λ b. last_answer w (cond b (Some x.hop) o) xs a) (eq-eqb _ _ holds)))
    suits

-- the trees of the halves, joined
joint : (F : ℕ → Option ℕ) (n q : ℕ) (low high t : PlanTree) → Suits n (2 * q) F low
    → Suits n (2 * q + 1) F high → IsJoint low high t → Suits (suc n) q F t
joint F n q low high (one o) l h j = absurd j
joint F n q low high (open_at x y) l h j =
    subst (λ x. Suits (suc n) q F (open_at x y)) (sym j.0)
    (subst (λ y. Suits (suc n) q F (open_at low y)) (sym j.1) (j.2, l, h))
joint F n q low high (closed_at hops x y) l h j =
    subst (λ x. Suits (suc n) q F (closed_at hops x y)) (sym j.0)
    (subst (λ y. Suits (suc n) q F (closed_at hops low y)) (sym j.1) (j.2, j.3, j.4, l, h))

-- the tree of a block of which the routes go to networks in its halves
pub suits_halves : (w n q : ℕ) (o : Option ℕ) (xs ys : List Route) (low high t : PlanTree) → 0 < n
    → All (IsWithin w (n - 1) (2 * q)) xs → All (IsWithin w (n - 1) (2 * q + 1)) ys
    → Suits (n - 1) (2 * q) (last_answer w o xs) low → Suits (n - 1) (2 * q + 1)
    (last_answer w o ys) high → IsJoint low high t
    → Suits n q (last_answer w o (xs ++ ys)) t
suits_halves w n q o xs ys low high t some front back l h j =
    let m = n - 1 in
    let whole : suc m ≡ n = omega arith in
    let F = last_answer w o (xs ++ ys) in
    subst (λ k. Suits k q F t) whole
    (joint F m q low high t
    (suits_same (last_answer w o xs) F low m (2 * q)
    (λ a e. sym (last_answer-append w o xs ys a ∙ last_answer-none w (last_answer w o xs a) ys a
    (holds_none w m (2 * q) (2 * q + 1) a ys e (omega arith) back))) l)
    (suits_same (last_answer w o ys) F high m (2 * q + 1)
    (λ a e. sym (last_answer-append w o xs ys a ∙ ap (λ p. last_answer w p ys a)
    (last_answer-none w o xs a (holds_none w m (2 * q + 1) (2 * q) a xs e
    (omega arith) front)))) h)
    j)

-- the same tree under other names of its numbers
pub suits_moved : (w v n m q p : ℕ) (o : Option ℕ) (xs : List Route) (t : PlanTree) → v ≡ w → m ≡ n
    → p ≡ q
    → Suits m p (last_answer v o xs) t → Suits n q (last_answer w o xs) t
suits_moved w v n m q p o xs t e f g suits =
    subst (λ x. Suits n q (last_answer x o xs) t) e
    (subst (λ x. Suits x q (last_answer v o xs) t) f
    (subst (λ x. Suits m x (last_answer v o xs) t) g suits))

-- the routes below the middle of a block
pub all_low : (w n q middle i : ℕ) (xs : List Route) → middle ≡ (2 * q + 1) * 2 ^ (n - 1)
    → All (IsWithin w n q) xs
    → All (λ r. w - r.bits < n) xs → IsPartitionPoint (λ r. ltb r.base middle ≡ true)
    (λ r. ltb r.base middle ≡ false) xs i
    → All (IsWithin w (n - 1) (2 * q)) (take i xs)
all_low w n q middle i xs e all less point k d lt =
    let short : k < min i (length xs) = subst (λ l. k < l) (length-take i xs) lt in
    let below : get_or xs k d ≡ get_or (take i xs) k d = sym (get_or-take i xs k d (omega arith)) in
    let r = get_or xs k d in
    let under : r.base < middle = ltb-true r.base middle
    (point.0 k d (omega arith) (omega arith)) in
    subst (IsWithin w (n - 1) (2 * q)) below
    (in_low w n q r (all k d (omega arith)) (less k d (omega arith))
    (subst (λ m. r.base < m) e under))

-- the routes from the middle on
pub all_high : (w n q middle i : ℕ) (xs : List Route) → middle ≡ (2 * q + 1) * 2 ^ (n - 1)
    → All (IsWithin w n q) xs
    → All (λ r. w - r.bits < n) xs → IsPartitionPoint (λ r. ltb r.base middle ≡ true)
    (λ r. ltb r.base middle ≡ false) xs i
    → All (IsWithin w (n - 1) (2 * q + 1)) (drop i xs)
all_high w n q middle i xs e all less point k d lt =
    let short : k < length xs - i = subst (λ l. k < l) (length-drop i xs) lt in
    let above : get_or xs (i + k) d ≡ get_or (drop i xs) k d = sym (get_or-drop i xs k d) in
    let r = get_or xs (i + k) d in
    let over : middle ≤ r.base = ltb-false r.base middle
    (point.1 (i + k) d (omega arith) (omega arith)) in
    subst (IsWithin w (n - 1) (2 * q + 1)) above
    (in_high w n q r (all (i + k) d (omega arith)) (less (i + k) d (omega arith))
    (subst (λ m. m ≤ r.base) e over))
