use Rattle.std.proofs.Common.{◌∙◌}
use Rattle.flat_routes.proofs.ImageLemmas.{narrow_size, wide_size}
use Rattle.flat_routes.proofs.rows.bits_at.Goals as goal

pub returns-then-wide : goal.returns-then-wide
returns-then-wide c = c.u32_at.ensures ∙ wide_size c.args.wide c.args.image.now c.args.plan c.args.at c.if-wide.true c.requires.plan c.requires.within

pub returns-else-wide : goal.returns-else-wide
returns-else-wide c = c.u32_at-else-wide.ensures ∙ narrow_size c.args.wide c.args.image.now c.args.plan c.args.at c.if-wide.false c.requires.plan c.requires.within
