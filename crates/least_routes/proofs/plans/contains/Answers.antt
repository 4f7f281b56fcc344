-- A search finds a hop just where it is.
use Rattle.std.proofs.Common.{◌∙◌}
use Rattle.least_routes.proofs.Hops.{has-searched}
use Rattle.least_routes.proofs.plans.contains.Goals as goal

pub returns : goal.returns
returns c =
    c.is_ok.ensures.value
    ∙ has-searched c.args.hops.now c.args.hop c.binary_search.result c.binary_search.ensures.position c.requires
