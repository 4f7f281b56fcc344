use Rattle.std.proofs.Common.{arith}
use Rattle.flat_routes.specs.Images.{bases, sizes, width}
use Rattle.flat_routes.proofs.ImageLemmas.{length-firsts, rising_next}
use Rattle.flat_routes.proofs.merging.count_in_order.Goals as goal

pub returns-then-not-is_next-clause-all : goal.returns-then-not-is_next-clause-all
returns-then-not-is_next-clause-all c = λ image.
    let wide = c.args.wide in
    let bs = c.args.image.now in
    let yes = c.is_next.ensures.1 (rising_next (width wide) (bases wide bs) (sizes wide bs) image.rising c.loop-at.at (omega (arith, c.loop-at-test.true, c.requires.plan.rows, length-firsts wide bs))) in
    let no = c.if-not-is_next.true in
    absurd (cc (yes, no))
