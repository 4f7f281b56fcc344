-- What the routes chosen for the tree of a table are: as few as can be.
use Rattle.std.proofs.Common.{◌≡◌, ℕ, ◌-◌, ◌*◌, ◌/◌, ◌^◌, ◌<◌, ◌≤◌, ◌∙◌, List, length, None, sym, subst, refl, arith}
use Rattle.std.proofs.Math.Nat.{div-eq_of_lt}
use Rattle.std.proofs.lemmas.Nat.{shr_split, mod_below, pow_pos}
use Rattle.std.specs.List.{All}
use Rattle.std.proofs.lemmas.List.Elements.{All-weaker}
use Rattle.least_routes.specs.declared.routes.Route.{Route}
use Rattle.least_routes.specs.Routes.{HasHop, IsOfWidth, IsWithin, IsHopOf, HaveSameAnswers, IsTable}
use Rattle.least_routes.specs.Trees.{PlanTree, Suits, chosen, last_answer}
use Rattle.least_routes.proofs.ChosenHops.{chosen_hops}
use Rattle.least_routes.proofs.Lower.{least_length}
use Rattle.least_routes.proofs.Slices.{suits_moved}
use Rattle.least_routes.proofs.Tables.{answer_last, above_answer, last_is, chosen_order}
use Rattle.least_routes.proofs.Upper.{chosen_within, chosen_length, chosen_answer}

-- the addresses of w bits are the one block of w free bits
below_whole : (a w : ℕ) → a / 2 ^ w ≡ 0 → a < 2 ^ w
below_whole a w e =
    omega (arith, shr_split a w, subst (λ t. t * 2 ^ w ≡ 0 * 2 ^ w) (sym e) refl, mod_below a (2 ^ w) (pow_pos w))

module _ (w : ℕ) (routes : List Route) (t : PlanTree) (table : IsTable w routes) (suits : Suits w 0 (last_answer w None routes) t) where
  fits : 0 < 2 ^ (w - w)
  fits = pow_pos (w - w)

  -- the chosen routes are a table
  pub chosen_table : IsTable w (chosen w w 0 t None)
  chosen_table = (
    All-weaker (IsWithin w w 0) (IsOfWidth w) (λ r at. at.of_width) (chosen w w 0 t None) (chosen_within w t w 0 None (omega arith) fits),
    chosen_order w t w 0 None (omega arith) fits,
  )

  -- an address has one answer in both
  same_last : (a : ℕ) → a < 2 ^ w
      → last_answer w None (chosen w w 0 t None) a ≡ last_answer w None routes a
  same_last a lt = chosen_answer w (last_answer w None routes) t w 0 None a suits (omega arith) fits (λ _. refl) (div-eq_of_lt lt)

  -- the chosen routes have the answers of the table
  pub chosen_same : HaveSameAnswers w (chosen w w 0 t None) routes
  chosen_same a o lt = (
    (λ h. subst (IsHopOf w routes a) (sym (same_last a lt) ∙ answer_last w (chosen w w 0 t None) a o chosen_table h) (last_is w routes a table)),
    (λ h. subst (IsHopOf w (chosen w w 0 t None) a) (same_last a lt ∙ answer_last w routes a o table h) (last_is w (chosen w w 0 t None) a chosen_table)),
  )

  -- no list with these answers is shorter
  pub chosen_least : (other : List Route) → HaveSameAnswers w other routes
      → length (chosen w w 0 t None) ≤ length other
  chosen_least other same =
      omega (
        arith,
        chosen_length w (last_answer w None routes) t w 0 None suits,
        least_length w (last_answer w None routes) other t suits
            (λ a o e up. answer_last w routes a o table ((same a o (below_whole a w e)).0 (above_answer w other a o up))),
      )

-- what is proved of the routes that are chosen
pub record IsLeast (w : ℕ) (routes out : List Route) : Type 0 where
  pub same : HaveSameAnswers w out routes
  pub least : (other : List Route) → HaveSameAnswers w other routes → length out ≤ length other
  pub table : IsTable w out
  pub hops : All (λ r. HasHop routes r.hop) out

-- the routes chosen for the block of all addresses
pub is_least : (w v n q : ℕ) (routes out : List Route) (t : PlanTree) → v ≡ w → n ≡ w → q ≡ 0
    → IsTable w routes
    → Suits n q (last_answer v None routes) t → out ≡ chosen v n q t None → IsLeast w routes out
is_least w v n q routes out t whole all first table suits e =
    let moved = suits_moved w v w n 0 q None routes t whole all first suits in
    let same : out ≡ chosen w w 0 t None = cc in
    subst (IsLeast w routes) (sym same) (record {
      same = chosen_same w routes t table moved;
      least = chosen_least w routes t table moved;
      table = chosen_table w routes t table moved;
      hops = chosen_hops w w 0 routes t None moved;
    })
