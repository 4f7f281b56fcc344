-- The block has fewer free bits, or there are fewer routes.
use Rattle.std.proofs.Common.{length, ◌+◌}
use Rattle.least_routes.proofs.plans.Plan.+of.Given as goal

abbrev pub decreases-of : goal.decreases-of
decreases-of l = l.block.free + length l.routes.now
