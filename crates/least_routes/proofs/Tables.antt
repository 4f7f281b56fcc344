-- Routing tables: lists of networks in strict order.
use Rattle.std.proofs.Common.{◌≡◌, ℕ, zero, suc, ◌+◌, ◌-◌, ◌*◌, ◌/◌, ◌^◌, ◌<◌, ◌≤◌, ◌∙◌, true, false, cond, eqb, List, [], ◌∷◌, ◌++◌, length, get_or, Option, Some, None, sym, ap, subst, inl, inr, arith, add-one}
use Rattle.std.specs.List.{All, AllPairs, Contains}
use Rattle.std.proofs.lemmas.Bool.{cases_lt, eq-eqb}
use Rattle.std.proofs.lemmas.Nat.{shr_split, le-div, pow_pos}
use Rattle.std.proofs.lemmas.List.{append-nil}
use Rattle.std.proofs.lemmas.List.Elements.{All-nil, All-head, All-tail, All-weaker, All-append}
use Rattle.std.proofs.lemmas.List.Kept.{AllPairs-cons}
use Rattle.least_routes.specs.declared.routes.Route.{Route}
use Rattle.least_routes.specs.Routes.{HoldsNumber, IsOfWidth, IsWithin, IsLongestIn, IsHopOf, IsSortedBefore, IsTable}
use Rattle.least_routes.specs.Trees.{PlanTree, one, open_at, closed_at, has, given, root_route, at_root, chosen, last_answer}
use Rattle.least_routes.proofs.BlockLemmas.{coarser, from_low, from_high}
use Rattle.least_routes.proofs.Competitors.{Above, IsOut, IsNoLonger, answer}
use Rattle.least_routes.proofs.Upper.{last_answer-none, halves_fit, chosen_within}

-- the first of a list in order precedes each other
pub pairs_head : (x : Route) (xs : List Route) → AllPairs IsSortedBefore (x ∷ xs) → All (IsSortedBefore x) xs
pairs_head x xs all k d lt = all 0 (suc k) d (omega arith) (omega arith)

-- the others are in order
pub pairs_tail : (x : Route) (xs : List Route) → AllPairs IsSortedBefore (x ∷ xs) → AllPairs IsSortedBefore xs
pairs_tail x xs all i j d lt le = all (suc i) (suc j) d (omega arith) (omega arith)

-- two lists in order, each of the first before each of the second
pairs_append : (xs ys : List Route) → AllPairs IsSortedBefore xs → AllPairs IsSortedBefore ys
    → All (λ x. All (IsSortedBefore x) ys) xs → AllPairs IsSortedBefore (xs ++ ys)
pairs_append [] ys front back cross = back
pairs_append (x ∷ xs) ys front back cross =
    AllPairs-cons IsSortedBefore x (xs ++ ys)
    (All-append (IsSortedBefore x) xs ys (pairs_head x xs front)
    (All-head (λ x. All (IsSortedBefore x) ys) x xs cross))
    (pairs_append xs ys (pairs_tail x xs front) back
    (All-tail (λ x. All (IsSortedBefore x) ys) x xs cross))

-- what precedes one that precedes a third
precedes_trans : (x y z : Route) → IsSortedBefore x y → IsSortedBefore y z → IsSortedBefore x z
precedes_trans x y z (inl p) (inl q) = inl (omega arith)
precedes_trans x y z (inl p) (inr q) = inl (omega (arith, q.0))
precedes_trans x y z (inr p) (inl q) = inl (omega (arith, p.0))
precedes_trans x y z (inr p) (inr q) = inr (p.0 ∙ q.0, omega (arith, p.1, q.1))

-- a list is in order where each of it precedes the next
pub pairs_from_steps : (xs : List Route)
    → ((k : ℕ) (d : Route) → k + 1 < length xs → IsSortedBefore (get_or xs k d) (get_or xs (k + 1) d))
    → AllPairs IsSortedBefore xs
pairs_from_steps xs steps i zero d lt le = absurd (omega arith)
pairs_from_steps xs steps i (suc j) d lt le =
    let step : IsSortedBefore (get_or xs j d) (get_or xs (suc j) d) = subst
    (λ k. IsSortedBefore (get_or xs j d) (get_or xs k d)) (add-one j) (steps j d (omega arith)) in
    elim (cases_lt i j) [
      | inl less ↦ precedes_trans (get_or xs i d) (get_or xs j d) (get_or xs (suc j) d)
          (pairs_from_steps xs steps i j d less (omega arith)) step
      | inr ge ↦ (let same : j ≡ i = omega arith in subst
          (λ k. IsSortedBefore (get_or xs k d) (get_or xs (suc j) d)) same step)
    ]

-- of two networks that hold one address, the one that stands first shares fewer bits
pub nested : (w : ℕ) (x y : Route) (a : ℕ) → IsOfWidth w x → IsOfWidth w y → HoldsNumber w x a
    → HoldsNumber w y a → IsSortedBefore x y → x.bits < y.bits
nested w x y a p q f g (inr same) = same.1
nested w x y a p q f g (inl less) =
    elim (cases_lt x.bits y.bits) [
      | inl lt ↦ lt
      | inr ge ↦ (
          let k = w - y.bits in
          let e : x.base / 2 ^ k ≡ y.base / 2 ^ k = coarser x.base a (w - x.bits) k (omega arith)
          (sym f)
          ∙ g in
          absurd (omega (arith, shr_split x.base k, shr_split y.base k, ap (λ t. t * 2 ^ k) e, q.2))
          )
    ]

-- the longest network that holds the address is the last that does
at_first : (w : ℕ) (o : Option ℕ) (x : Route) (xs : List Route) (a : ℕ) → All (IsOfWidth w) (x ∷ xs)
    → AllPairs IsSortedBefore (x ∷ xs)
    → IsLongestIn w (x ∷ xs) a x → last_answer w o (x ∷ xs) a ≡ Some x.hop
at_first w o x xs a all pairs longest =
    let here : IsOfWidth w x = All-head (IsOfWidth w) x xs all in
    let none : All (λ s. ¬ HoldsNumber w s a) xs = λ k d lt holds.
    let s = get_or xs k d in
    let less : x.bits < s.bits = nested w x s a here
    (All-tail (IsOfWidth w) x xs all k d lt) longest.0 holds (pairs_head x xs pairs k d lt) in
    let most : s.bits ≤ x.bits = All-tail
    (λ s. HoldsNumber w s a → s.bits ≤ x.bits) x xs longest.1 k d lt holds in
    absurd (omega arith) in
    ap (λ b. last_answer w (cond b (Some x.hop) o) xs a) (eq-eqb _ _ longest.0)
    ∙ last_answer-none w (Some x.hop) xs a none

-- an answer of a table is the hop of the last network that holds the address
at_last : (w : ℕ) (o : Option ℕ) (xs : List Route) (a : ℕ) (r : Route) → All (IsOfWidth w) xs
    → AllPairs IsSortedBefore xs → Contains xs r
    → IsLongestIn w xs a r → last_answer w o xs a ≡ Some r.hop
at_last w o [] a r all pairs (k, lt, e) longest = absurd (omega arith)
at_last w o (x ∷ xs) a r all pairs (zero, lt, e) longest =
    subst (λ y. last_answer w o (x ∷ xs) a ≡ Some y.hop) e
    (at_first w o x xs a all pairs (subst (IsLongestIn w (x ∷ xs) a) (sym e) longest))
at_last w o (x ∷ xs) a r all pairs (suc k, lt, e) longest =
    at_last w (cond (eqb (a / 2 ^ (w - x.bits)) (x.base / 2 ^ (w - x.bits))) (Some x.hop) o) xs a r
    (All-tail (IsOfWidth w) x xs all) (pairs_tail x xs pairs) (k, omega arith, e)
    (longest.0, All-tail (λ s. HoldsNumber w s a → s.bits ≤ r.bits) x xs longest.1)

-- each answer of a table is that of its last network that holds the address
pub answer_last : (w : ℕ) (xs : List Route) (a : ℕ) (o : Option ℕ) → IsTable w xs
    → IsHopOf w xs a o → last_answer w None xs a ≡ o
answer_last w xs a None table all = last_answer-none w None xs a all
answer_last w xs a (Some h) table (k, r, lt, e, found) =
    at_last w None xs a r table.0 table.1 (k, lt, e) found.0 ∙ ap (λ x. Some x) found.1

-- an answer among all networks is one of the list
pub above_answer : (w : ℕ) (xs : List Route) (a : ℕ) (o : Option ℕ) → Above w 0 xs a o
    → IsHopOf w xs a o
above_answer w xs a None all =
    All-weaker (IsOut w 0 a) (λ r. ¬ HoldsNumber w r a) (λ r out. out (omega arith)) xs all
above_answer w xs a (Some h) (r, (k, lt, e), wide, holds, eh, all) = (
  k,
  r,
  lt,
  e,
  (
    (
      holds,
      All-weaker (IsNoLonger w 0 a r.bits) (λ s. HoldsNumber w s a → s.bits ≤ r.bits)
          (λ s f. f (omega arith)) xs all,
    ),
    eh,
  ),
)

-- the last network that holds the address gives an answer of a table
pub last_is : (w : ℕ) (xs : List Route) (a : ℕ) → IsTable w xs
    → IsHopOf w xs a (last_answer w None xs a)
last_is w xs a table =
    let found = answer w 0 xs a in
    let got = above_answer w xs a found.0 found.1 in
    subst (IsHopOf w xs a) (sym (answer_last w xs a found.0 table got)) got

-- an address below another block's is less
less_from_block : (x y n : ℕ) → x / 2 ^ n < y / 2 ^ n → x < y
less_from_block x y n lt =
    elim (cases_lt x y) [
      | inl less ↦ less
      | inr more ↦ (
          let d : y / 2 ^ n ≤ x / 2 ^ n = le-div (y / 2 ^ n) x (2 ^ n) (pow_pos n)
          (omega (arith, shr_split y n)) in
          absurd (omega arith)
          )
    ]

-- what is within the lower half precedes what is within the upper half
low_first : (w n q : ℕ) (xs ys : List Route) → All (IsWithin w n (2 * q)) xs
    → All (IsWithin w n (2 * q + 1)) ys → All (λ x. All (IsSortedBefore x) ys) xs
low_first w n q xs ys low high =
    All-weaker (IsWithin w n (2 * q)) (λ x. All (IsSortedBefore x) ys)
    (λ x at. All-weaker (IsWithin w n (2 * q + 1)) (IsSortedBefore x)
    (λ y up. inl (less_from_block x.base y.base n
    (omega (arith, at.in_block, up.in_block)))) ys high) xs low

-- the route to a block precedes what is within its halves
root_first : (w n q : ℕ) (hops : List ℕ) (r : Route) → suc n ≤ w → w - r.bits ≤ n
    → r.base / 2 ^ suc n ≡ q → IsSortedBefore (root_route w (suc n) q hops) r
root_first w n q hops r le narrow e =
    let least : q * 2 ^ suc n ≤ r.base = subst (λ t. t * 2 ^ suc n ≤ r.base) e
    (omega (arith, shr_split r.base (suc n))) in
    elim (cases_lt (q * 2 ^ suc n) r.base) [
      | inl lt ↦ inl lt
      | inr ge ↦ inr
          (omega arith, omega arith)
    ]

-- the routes at a root precede what is within its halves
at_root_first : (w n q : ℕ) (hops : List ℕ) (o : Option ℕ) (rs : List Route)
    → All (IsSortedBefore (root_route w n q hops)) rs → AllPairs IsSortedBefore rs
    → AllPairs IsSortedBefore (at_root w n q hops o ++ rs)
at_root_first w n q hops None rs first pairs =
    AllPairs-cons IsSortedBefore (root_route w n q hops) rs first pairs
at_root_first w n q hops (Some h) rs first pairs =
    elim (has hops h) as (λ b. AllPairs IsSortedBefore (cond b [] (root_route w n q hops ∷ []) ++ rs)) [
      | true ↦ pairs
      | false ↦ AllPairs-cons IsSortedBefore (root_route w n q hops) rs first pairs
    ]

-- no routes are in order
pairs_nil : AllPairs IsSortedBefore []
pairs_nil i j d lt le = absurd (omega arith)

-- the routes to two halves are in order, and none is the block's
halves_order : (w n q : ℕ) (xs ys : List Route) → All (IsWithin w n (2 * q)) xs
    → All (IsWithin w n (2 * q + 1)) ys → AllPairs IsSortedBefore xs → AllPairs IsSortedBefore ys
    → AllPairs IsSortedBefore (xs ++ ys)
halves_order w n q xs ys low high front back =
    pairs_append xs ys front back (low_first w n q xs ys low high)

-- the chosen routes are in order
pub chosen_order : (w : ℕ) (t : PlanTree) (n q : ℕ) (o : Option ℕ) → n ≤ w → q < 2 ^ (w - n)
    → AllPairs IsSortedBefore (chosen w n q t o)
chosen_order w (one None) n q o le fits = pairs_nil
chosen_order w (one (Some h)) n q o le fits =
    subst (AllPairs IsSortedBefore) (append-nil (at_root w n q (h ∷ []) o))
    (at_root_first w n q (h ∷ []) o [] (All-nil (IsSortedBefore (root_route w n q (h ∷ [])))) pairs_nil)
chosen_order w (open_at low high) zero q o le fits = pairs_nil
chosen_order w (open_at low high) (suc n) q o le fits =
    let d = halves_fit w n q le fits in
    halves_order w n q (chosen w n (2 * q) low None) (chosen w n (2 * q + 1) high None)
    (chosen_within w low n (2 * q) None (omega arith) (omega arith))
    (chosen_within w high n (2 * q + 1) None (omega arith) d)
    (chosen_order w low n (2 * q) None (omega arith) (omega arith))
    (chosen_order w high n (2 * q + 1) None (omega arith) d)
chosen_order w (closed_at hops low high) zero q o le fits = pairs_nil
chosen_order w (closed_at hops low high) (suc n) q o le fits =
    let d = halves_fit w n q le fits in
    let g = Some (given hops o) in
    let root = root_route w (suc n) q hops in
    let xs = chosen w n (2 * q) low g in
    let ys = chosen w n (2 * q + 1) high g in
    let front = chosen_within w low n (2 * q) g (omega arith) (omega arith) in
    let back = chosen_within w high n (2 * q + 1) g (omega arith) d in
    at_root_first w (suc n) q hops o (xs ++ ys)
    (All-append (IsSortedBefore root) xs ys
    (All-weaker (IsWithin w n (2 * q)) (IsSortedBefore root)
    (λ r at. root_first w n q hops r le at.no_wider (from_low r.base n q at.in_block)) xs front)
    (All-weaker (IsWithin w n (2 * q + 1)) (IsSortedBefore root)
    (λ r at. root_first w n q hops r le at.no_wider (from_high r.base n q at.in_block)) ys back))
    (halves_order w n q xs ys front back (chosen_order w low n (2 * q) g (omega arith)
    (omega arith)) (chosen_order w high n (2 * q + 1) g (omega arith) d))
