-- Each chosen route has a hop of the table.
use Rattle.std.proofs.Common.{◌≡◌, ℕ, zero, suc, ◌+◌, ◌*◌, ◌^◌, ◌/◌, ◌-◌, ◌∙◌, ◌⊎◌, Bool, true, false, cond, ◌||◌, ◌&&◌, eqb, List, [], ◌∷◌, ◌++◌, get_or, Option, Some, None, refl, sym, ap, inl, inr, arith}
use Rattle.std.specs.List.{All}
use Rattle.std.proofs.lemmas.Bool.{eqb-true}
use Rattle.std.proofs.lemmas.List.Elements.{All-nil, All-cons, All-weaker, All-append}
use Rattle.least_routes.specs.declared.routes.Route.{Route}
use Rattle.least_routes.specs.Routes.{HasHop}
use Rattle.least_routes.specs.Trees.{PlanTree, one, open_at, closed_at, Suits, has, hops_of, given, root_route, at_root, chosen, last_answer}
use Rattle.least_routes.proofs.BlockLemmas.{first_in}
use Rattle.least_routes.proofs.Upper.{has_first}

-- one of a list with one more in front
later_hop : (x : Route) (xs : List Route) (hop : ℕ) → HasHop xs hop → HasHop (x ∷ xs) hop
later_hop x xs hop (k, r, lt, e, is) = (suc k, r, omega arith, e, is)

-- an answer is a route's hop, or what stands above
last_hop : (w : ℕ) (o : Option ℕ) (xs : List Route) (a hop : ℕ) → last_answer w o xs a ≡ Some hop → (o ≡ Some hop) ⊎ HasHop xs hop
last_hop w o [] a hop e = inl e
last_hop w o (x ∷ xs) a hop e =
    let test = eqb (a / 2 ^ (w - x.bits)) (x.base / 2 ^ (w - x.bits)) in
    elim (last_hop w (cond test (Some x.hop) o) xs a hop e) [
      | inr later ↦ inr (later_hop x xs hop later)
      | inl above ↦ own test above
    ]
  where
    own : (b : Bool) → cond b (Some x.hop) o ≡ Some hop → (o ≡ Some hop) ⊎ HasHop (x ∷ xs) hop
    own true is = inr (0, x, omega arith, refl, cc)
    own false is = inl is

-- one of two tests, where both are needed or either
one_of_both : (t x y : Bool) → cond t (x || y) (x && y) ≡ true → (x ≡ true) ⊎ (y ≡ true)
one_of_both t true y e = inl refl
one_of_both t false true e = inr refl
one_of_both true false false e = cc
one_of_both false false false e = cc

module _ (F : ℕ → Option ℕ) where
  -- the hop is the answer for some address
  abbrev IsAnswered : ℕ → Type 0
  IsAnswered hop = (a : ℕ) × (F a ≡ Some hop)

  -- the best hops of a block are answers
  best_answered : (t : PlanTree) (n q hop : ℕ) → Suits n q F t → has (hops_of t) hop ≡ true → IsAnswered hop
  best_answered (one None) n q hop suits e = cc
  best_answered (one (Some x)) n q hop suits e = (q * 2 ^ n, suits (q * 2 ^ n) (first_in n q) ∙ ap (λ y. Some y) (only x hop e))
    where
      only : (x hop : ℕ) → (eqb x hop || false) ≡ true → x ≡ hop
      only x hop e = eqb-true x hop (one_alone (eqb x hop) e)
        where
          one_alone : (b : Bool) → (b || false) ≡ true → b ≡ true
          one_alone true e = refl
          one_alone false e = e
  best_answered (open_at low high) n q hop suits e = cc
  best_answered (closed_at hops low high) zero q hop suits e = absurd suits
  best_answered (closed_at hops low high) (suc n) q hop suits e =
      elim (one_of_both _ (has (hops_of low) hop) (has (hops_of high) hop) (sym (suits.2.members hop) ∙ e)) [
        | inl is ↦ best_answered low n (2 * q) hop suits.3 is
        | inr is ↦ best_answered high n (2 * q + 1) hop suits.4 is
      ]

  -- a root's hop is the first of its best
  root_answered : (w n q : ℕ) (hops : List ℕ) (o : Option ℕ) → IsAnswered (get_or hops 0 0) → All (λ r. IsAnswered r.hop) (at_root w n q hops o)
  root_answered w n q hops None is = All-cons (λ r. IsAnswered r.hop) (root_route w n q hops) [] is (All-nil (λ r. IsAnswered r.hop))
  root_answered w n q hops (Some hop) is =
      elim (has hops hop) as (λ b. All (λ r. IsAnswered r.hop) (cond b [] (root_route w n q hops ∷ []))) [
        | true ↦ All-nil (λ r. IsAnswered r.hop)
        | false ↦ All-cons (λ r. IsAnswered r.hop) (root_route w n q hops) [] is (All-nil (λ r. IsAnswered r.hop))
      ]

  -- the hops of chosen routes are answers
  chosen_answered : (w : ℕ) (t : PlanTree) (n q : ℕ) (o : Option ℕ) → Suits n q F t → All (λ r. IsAnswered r.hop) (chosen w n q t o)
  chosen_answered w (one None) n q o suits = All-nil (λ r. IsAnswered r.hop)
  chosen_answered w (one (Some hop)) n q o suits = root_answered w n q (hop ∷ []) o (q * 2 ^ n, suits (q * 2 ^ n) (first_in n q))
  chosen_answered w (open_at low high) zero q o suits = All-nil (λ r. IsAnswered r.hop)
  chosen_answered w (open_at low high) (suc n) q o suits =
      All-append (λ r. IsAnswered r.hop) (chosen w n (2 * q) low None) (chosen w n (2 * q + 1) high None) (chosen_answered w low n (2 * q) None suits.1) (chosen_answered w high n (2 * q + 1) None suits.2)
  chosen_answered w (closed_at hops low high) zero q o suits = All-nil (λ r. IsAnswered r.hop)
  chosen_answered w (closed_at hops low high) (suc n) q o suits =
      let g = Some (given hops o) in
      let xs = chosen w n (2 * q) low g in
      let ys = chosen w n (2 * q + 1) high g in
      All-append (λ r. IsAnswered r.hop) (at_root w (suc n) q hops o) (xs ++ ys)
      (root_answered w (suc n) q hops o (best_answered (closed_at hops low high) (suc n) q (get_or hops 0 0) suits (has_first hops suits.2.some)))
      (All-append (λ r. IsAnswered r.hop) xs ys (chosen_answered w low n (2 * q) g suits.3) (chosen_answered w high n (2 * q + 1) g suits.4))

-- an answer of a table is a hop of it
answered_hop : (w : ℕ) (routes : List Route) (hop : ℕ) → IsAnswered (last_answer w None routes) hop → HasHop routes hop
answered_hop w routes hop (a, is) = elim (last_hop w None routes a hop is) [ inl none ↦ (let h : None ≡ Some hop = none in cc) | inr has ↦ has ]

-- each route that is chosen for a table has a hop of it
pub chosen_hops : (w n q : ℕ) (routes : List Route) (t : PlanTree) (o : Option ℕ) → Suits n q (last_answer w None routes) t → All (λ r. HasHop routes r.hop) (chosen w n q t o)
chosen_hops w n q routes t o suits =
    All-weaker (λ r. IsAnswered (last_answer w None routes) r.hop) (λ r. HasHop routes r.hop) (λ r is. answered_hop w routes r.hop is)
    (chosen w n q t o) (chosen_answered (last_answer w None routes) w t n q o suits)
