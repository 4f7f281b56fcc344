use Rattle.std.proofs.Common.{◌∙◌}
use Rattle.flat_routes.proofs.ImageLemmas.{narrow_first, wide_first}
use Rattle.flat_routes.proofs.rows.first_at.Goals as goal

pub returns-then-wide-clause-value : goal.returns-then-wide-clause-value
returns-then-wide-clause-value c = c.u128_at.ensures ∙ wide_first c.args.wide c.args.image.now c.args.plan c.args.at c.if-wide.true c.requires.plan c.requires.within

pub returns-else-wide-clause-value : goal.returns-else-wide-clause-value
returns-else-wide-clause-value c = c.from.ensures ∙ c.u32_at.ensures ∙ narrow_first c.args.wide c.args.image.now c.args.plan c.args.at c.if-wide.false c.requires.plan c.requires.within
