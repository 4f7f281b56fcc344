use Rattle.std.proofs.Common.{arith, rules}
use Rattle.flat_routes.proofs.ImageLemmas.{length-rows}
use Rattle.flat_routes.proofs.merging.merge_len.Goals as goal
use Rattle.flat_routes.proofs.merging.merge_len.Goals.{in-Some, in-None}

pub returns-in_default : goal.returns-in_default
returns-in_default g c =
    let wide = c.WIDE-wide.result in
    let bs = c.args.image.now in
    rw (← c.WIDE-wide.ensures) (λ image.
    rw (length-rows wide bs) (λ can.
    let few = can.0 in
    let over = c.in_default.ensures.value in
    elim c.match-row_plan_of.branch [
      | in-Some w ↦ omega (arith, few, over, w.rows-is, w.in-Some.ensures.rows)
      | in-None w ↦ w.in-None.ensures image.head
    ]))

pub returns : goal.returns
returns g c =
    let wide = c.WIDE-wide.result in
    let bs = c.args.image.now in
    rw (← c.WIDE-wide.ensures) (λ image.
    rw (length-rows wide bs) (search rules))
