use Rattle.std.proofs.Common.{arith}
use Rattle.flat_routes.specs.Images.{bases, links, sizes, width}
use Rattle.flat_routes.proofs.ImageLemmas.{length-firsts}
use Rattle.flat_routes.proofs.SpanLemmas.{counted_by}
use Rattle.flat_routes.proofs.turns.count_up_to.Goals as goal

pub returns-else-first_at-number-clause-count : goal.returns-else-first_at-number-clause-count
returns-else-first_at-number-clause-count c =
    let wide = c.args.wide in
    let bs = c.args.image.now in
    counted_by (width wide) (bases wide bs) (sizes wide bs) (links wide bs) c.args.plan.rows c.args.number c.loop-count.count c.requires.linked
    (omega (arith, length-firsts wide bs, c.requires.plan.rows)) c.loop-count.invariant.within c.loop-count.invariant.before
    (λ l. omega (arith, c.if-first_at-number.false, c.first_at.ensures.value))

pub returns-after-loop-count-clause-count : goal.returns-after-loop-count-clause-count
returns-after-loop-count-clause-count c =
    let wide = c.args.wide in
    let bs = c.args.image.now in
    counted_by (width wide) (bases wide bs) (sizes wide bs) (links wide bs) c.args.plan.rows c.args.number c.loop-count.count c.requires.linked
    (omega (arith, length-firsts wide bs, c.requires.plan.rows)) c.loop-count.invariant.within c.loop-count.invariant.before
    (λ l. absurd (omega (arith, l, c.loop-count-test.false)))
