use Rattle.std.proofs.Common.{◌+◌, ◌/◌, ◌^◌, arith}
use Rattle.flat_texts.proofs.ImageLemmas.{count_above, count_below}
use Rattle.flat_texts.proofs.search.top_span.Goals as goal

pub returns-then-to-plan-clause-below : goal.returns-then-to-plan-clause-below
returns-then-to-plan-clause-below c = λ image k l.
    count_below c.args.image.now image (c.args.bound / 2 ^ 48) c.count_at-from.result c.args.bound (omega (arith, c.if-first-plan.true, c.requires.plan.counts))
    c.count_at-from.ensures k l (omega arith)

pub returns-then-to-plan-clause-above : goal.returns-then-to-plan-clause-above
returns-then-to-plan-clause-above c = λ image k l m.
    count_above c.args.image.now image (c.args.bound / 2 ^ 48 + 1) c.count_at-to.result c.args.bound (omega (arith, c.if-first-plan.true, c.requires.plan.counts))
    c.count_at-to.ensures k l (omega (arith, m, c.requires.plan.pairs)) (omega arith)
