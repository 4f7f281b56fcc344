-- The routes within the halves of a block, and the trees of these.
use Rattle.std.proofs.Common.{◌≡◌, ◌-◌, ◌*◌, ◌+◌, ◌<◌, length, Some, arith, rules, ap, sym, ◌∙◌, subst}
use Rattle.std.specs.List.{All, AllPairs}
use Rattle.std.proofs.lemmas.List.Elements.{All-rest, All-head}
use Rattle.std.proofs.lemmas.Result.{IfOk-weaker}
use Rattle.least_routes.specs.Plans.{plan_tree}
use Rattle.least_routes.specs.Routes.{IsWithin, IsSortedBefore}
use Rattle.least_routes.specs.Trees.{Suits, IsJoint, last_answer}
use Rattle.least_routes.proofs.Tables.{pairs_tail}
use Rattle.least_routes.proofs.Slices.{narrow, suits_own, suits_halves, suits_moved}
use Rattle.least_routes.proofs.plans.Plan.+of.Goals as goal

pub of-requires : goal.of-requires
of-requires t c =
    let e = c.in-Some.ensures.cases.0 in
    let b = c.args.block in (
      omega (arith, ap length e),
      (
        All-rest (IsWithin b.width b.free b.number) c.in-Some.first.now c.in-Some.others.now c.args.routes.now e c.requires.within,
        pairs_tail c.in-Some.first.now c.in-Some.others.now
            (subst (AllPairs IsSortedBefore) e c.requires.order),
      ),
    )

pub returns-then-first-bits : goal.returns-then-first-bits
returns-then-first-bits t c =
    let e = c.in-Some.ensures.cases.0 in
    let b = c.args.block in
    let x = c.in-Some.first.now in
    let xs = c.in-Some.others.now in
    let within = subst (All (IsWithin b.width b.free b.number)) e c.requires.within in
    let own : x.bits ≡ b.width - b.free = c.if-first-bits.true ∙ c.bits.ensures in
    IfOk-weaker c.of.result
    (λ v. Suits b.free b.number (last_answer b.width (Some x.hop) xs) (plan_tree v))
    (λ v. Suits b.free b.number (last_answer b.width c.args.above c.args.routes.now) (plan_tree v))
    (λ v s. subst (λ l. Suits b.free b.number (last_answer b.width c.args.above l) (plan_tree v))
    (sym e)
    (suits_own b.width b.free b.number c.args.above x xs (plan_tree v) b.within
    (All-head (IsWithin b.width b.free b.number) x xs within) own s))
    c.of.ensures

pub halves-requires-clause-narrow : goal.halves-requires-clause-narrow
halves-requires-clause-narrow t c =
    let e = c.in-Some.ensures.cases.0 in
    let b = c.args.block in
    let x = c.in-Some.first.now in
    let xs = c.in-Some.others.now in
    subst (All (λ r. b.width - r.bits < b.free)) (sym e)
    (narrow b.width b.free b.number x xs b.within
    (subst (All (IsWithin b.width b.free b.number)) e c.requires.within)
    (subst (AllPairs IsSortedBefore) e c.requires.order)
    (λ same. c.if-first-bits.false (same ∙ sym c.bits.ensures)))

pub returns : goal.returns
returns t c =
    let b = c.args.block in
    let h = c.halves.ensures in
    let xs = c.halves.result.0.now in
    let ys = c.halves.result.1.now in
    let low = suits_moved b.width c.low.result.width (b.free - 1) c.low.result.free
    (2 * b.number) c.low.result.number c.args.above xs
    (plan_tree c.in_ok-low.low) c.low.ensures.width c.low.ensures.free c.low.ensures.number
    (c.in_ok-low.ensures) in
    let high = suits_moved b.width c.high.result.width (b.free - 1) c.high.result.free
    (2 * b.number + 1) c.high.result.number c.args.above ys
    (plan_tree c.in_ok-high.high) c.high.ensures.width c.high.ensures.free c.high.ensures.number
    (c.in_ok-high.ensures) in
    IfOk-weaker c.join.result
    (λ v. IsJoint (plan_tree c.in_ok-low.low) (plan_tree c.in_ok-high.high) (plan_tree v))
    (λ v. Suits b.free b.number (last_answer b.width c.args.above c.args.routes.now) (plan_tree v))
    (λ v j. subst (λ l. Suits b.free b.number (last_answer b.width c.args.above l) (plan_tree v))
    (sym h.parts)
    (suits_halves b.width b.free b.number c.args.above xs ys (plan_tree c.in_ok-low.low)
    (plan_tree c.in_ok-high.high) (plan_tree v) (search rules) h.low h.high low high j))
    c.join.ensures
