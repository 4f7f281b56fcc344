use Rattle.std.proofs.Common.{◌∙◌}
use Rattle.flat_routes.proofs.ImageLemmas.{narrow_link, wide_link}
use Rattle.flat_routes.proofs.rows.link_at.Goals as goal

pub returns-then-wide : goal.returns-then-wide
returns-then-wide c = c.u32_at.ensures ∙ wide_link c.args.wide c.args.image.now c.args.plan c.args.at c.if-wide.true c.requires.plan c.requires.within

pub returns-else-wide : goal.returns-else-wide
returns-else-wide c = c.u32_at-else-wide.ensures ∙ narrow_link c.args.wide c.args.image.now c.args.plan c.args.at c.if-wide.false c.requires.plan c.requires.within
