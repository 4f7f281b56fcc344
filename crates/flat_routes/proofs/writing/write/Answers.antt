use Rattle.std.proofs.Common.{ℕ, ◌+◌, ◌*◌, ◌≤◌, List, length, map as each, take, subst, sym, arith}
use Rattle.std.proofs.lemmas.List.{length-map}
use Rattle.radix_keys.specs.Networks.{Net}
use Rattle.frozen_routes.specs.Routes.{AreRowsInOrder}
use Rattle.flat_routes.specs.declared.head.RowPlan.{RowPlan}
use Rattle.flat_routes.specs.Images.{row_size, width}
use Rattle.flat_routes.specs.Written.{ChangesWithin, HoldsRows, IsImageOf}
use Rattle.flat_routes.proofs.WriteLemmas.{change_through, head_kept, no_disorder, plan_kept, plan_written, rows_are, rows_linked}
use Rattle.flat_routes.proofs.writing.write.Goals as goal

pub returns-in-Some-unsorted-clause-ok : goal.returns-in-Some-unsorted-clause-ok
returns-in-Some-unsorted-clause-ok g c = (
  λ e. absurd (cc e),
  λ can. absurd (no_disorder (width g.R.FlatRow.WIDE) (each g.R.FlatRow.shown c.args.rows.now) c.in-Some-unsorted.at can.rising c.in-Some-unsorted.ensures),
)

pub put_index-requires-clause-plan : goal.put_index-requires-clause-plan
put_index-requires-clause-plan g c =
    let wide = c.WIDE-wide.result in
    let is = c.WIDE-wide.ensures in
    let given = c.args.rows.now in
    let shown = g.R.FlatRow.shown in
    let rows = each shown given in
    let n = length given in
    let plan : RowPlan = record { rows = n; rows_at = 112 } in
    let b1 = c.put_row_head.new.out in
    let b2 = c.put_rows.new.out in
    let many = length-map given shown in
    let put = subst (λ b. ChangesWithin 112 (112 + row_size b * n) b1 b2) (sym is) c.put_rows.ensures.change in
    let holds = subst (λ b. HoldsRows b b2 rows n) (sym is) c.put_rows.ensures.rows in
    let rising = subst (λ b. AreRowsInOrder (width b) (λ m. m) rows) (sym is) c.in_default-unsorted.ensures in
    let room : 112 + row_size wide * n ≤ length b1 = omega (arith, c.in-Some.ensures.value, c.if-out-most.false, c.put_row_head.ensures.change.same_length) in
    let few = c.in-Some.ensures.value.0 in
    let first = plan_written wide b1 plan few room c.put_row_head.ensures.head in
    let of = plan_kept wide b1 b2 plan (λ k l. put.before k (omega (arith, l))) (omega (arith, room, put.same_length)) first in
    let counted = of.rows in
    of

pub put_index-requires-clause-head : goal.put_index-requires-clause-head
put_index-requires-clause-head g c =
    head_kept c.WIDE-wide.result c.put_row_head.new.out c.put_rows.new.out (record { rows = length c.args.rows.now; rows_at = 112 })
    (λ k l. c.put_rows.ensures.change.before k (omega (arith, l))) c.put_row_head.ensures.head

pub put_index-requires-clause-linked : goal.put_index-requires-clause-linked
put_index-requires-clause-linked g c =
    let wide = c.WIDE-wide.result in
    let is = c.WIDE-wide.ensures in
    let given = c.args.rows.now in
    let shown = g.R.FlatRow.shown in
    let rows = each shown given in
    let n = length given in
    let plan : RowPlan = record { rows = n; rows_at = 112 } in
    let b1 = c.put_row_head.new.out in
    let b2 = c.put_rows.new.out in
    let many = length-map given shown in
    let put = subst (λ b. ChangesWithin 112 (112 + row_size b * n) b1 b2) (sym is) c.put_rows.ensures.change in
    let holds = subst (λ b. HoldsRows b b2 rows n) (sym is) c.put_rows.ensures.rows in
    let rising = subst (λ b. AreRowsInOrder (width b) (λ m. m) rows) (sym is) c.in_default-unsorted.ensures in
    let room : 112 + row_size wide * n ≤ length b1 = omega (arith, c.in-Some.ensures.value, c.if-out-most.false, c.put_row_head.ensures.change.same_length) in
    let few = c.in-Some.ensures.value.0 in
    let first = plan_written wide b1 plan few room c.put_row_head.ensures.head in
    let of = plan_kept wide b1 b2 plan (λ k l. put.before k (omega (arith, l))) (omega (arith, room, put.same_length)) first in
    let counted = of.rows in
    rows_linked wide b2 rows n holds (omega (arith, counted)) rising (omega (arith, many))

pub returns-clause-written : goal.returns-clause-written
returns-clause-written g c =
    let wide = c.WIDE-wide.result in
    let is = c.WIDE-wide.ensures in
    let given = c.args.rows.now in
    let shown = g.R.FlatRow.shown in
    let rows = each shown given in
    let n = length given in
    let plan : RowPlan = record { rows = n; rows_at = 112 } in
    let b1 = c.put_row_head.new.out in
    let b2 = c.put_rows.new.out in
    let many = length-map given shown in
    let put = subst (λ b. ChangesWithin 112 (112 + row_size b * n) b1 b2) (sym is) c.put_rows.ensures.change in
    let holds = subst (λ b. HoldsRows b b2 rows n) (sym is) c.put_rows.ensures.rows in
    let rising = subst (λ b. AreRowsInOrder (width b) (λ m. m) rows) (sym is) c.in_default-unsorted.ensures in
    let room : 112 + row_size wide * n ≤ length b1 = omega (arith, c.in-Some.ensures.value, c.if-out-most.false, c.put_row_head.ensures.change.same_length) in
    let few = c.in-Some.ensures.value.0 in
    let first = plan_written wide b1 plan few room c.put_row_head.ensures.head in
    let of = plan_kept wide b1 b2 plan (λ k l. put.before k (omega (arith, l))) (omega (arith, room, put.same_length)) first in
    let counted = of.rows in
    subst (λ b. IsImageOf b rows c.args.payload.now c.put_index.new.out) is
    (subst (λ (rs : List (Net ℕ × ℕ)). IsImageOf wide rs c.args.payload.now c.put_index.new.out) (rows_are wide b2 rows n holds counted (sym many)) c.put_index.ensures.written)

pub returns-clause-front : goal.returns-clause-front
returns-clause-front g c =
    let wide = c.WIDE-wide.result in
    let is = c.WIDE-wide.ensures in
    let given = c.args.rows.now in
    let shown = g.R.FlatRow.shown in
    let rows = each shown given in
    let n = length given in
    let plan : RowPlan = record { rows = n; rows_at = 112 } in
    let b1 = c.put_row_head.new.out in
    let b2 = c.put_rows.new.out in
    let many = length-map given shown in
    let put = subst (λ b. ChangesWithin 112 (112 + row_size b * n) b1 b2) (sym is) c.put_rows.ensures.change in
    let holds = subst (λ b. HoldsRows b b2 rows n) (sym is) c.put_rows.ensures.rows in
    let rising = subst (λ b. AreRowsInOrder (width b) (λ m. m) rows) (sym is) c.in_default-unsorted.ensures in
    let room : 112 + row_size wide * n ≤ length b1 = omega (arith, c.in-Some.ensures.value, c.if-out-most.false, c.put_row_head.ensures.change.same_length) in
    let few = c.in-Some.ensures.value.0 in
    let first = plan_written wide b1 plan few room c.put_row_head.ensures.head in
    let of = plan_kept wide b1 b2 plan (λ k l. put.before k (omega (arith, l))) (omega (arith, room, put.same_length)) first in
    let counted = of.rows in
    let front = take c.put_index.result c.put_index.new.out in
    subst (λ b. IsImageOf b rows c.args.payload.now front) is
    (subst (λ (rs : List (Net ℕ × ℕ)). IsImageOf wide rs c.args.payload.now front) (rows_are wide b2 rows n holds counted (sym many)) c.put_index.ensures.front)

pub returns-clause-change : goal.returns-clause-change
returns-clause-change g c =
    let wide = c.WIDE-wide.result in
    let n = length c.args.rows.now in
    let b1 = c.put_row_head.new.out in
    let b2 = c.put_rows.new.out in
    let put = subst (λ b. ChangesWithin 112 (112 + row_size b * n) b1 b2) (sym c.WIDE-wide.ensures) c.put_rows.ensures.change in
    let least = c.put_index.ensures.least in
    change_through 0 c.put_index.result 40 c.put_index.result 0 c.put_index.result c.args.out.now b2 c.put_index.new.out
    (change_through 0 40 112 (112 + row_size wide * n) 0 c.put_index.result c.args.out.now b1 b2 c.put_row_head.ensures.change put (omega arith) (omega arith) (omega (arith, least)) (omega (arith, least)))
    c.put_index.ensures.change (omega arith) (omega arith) (omega arith) (omega arith)
