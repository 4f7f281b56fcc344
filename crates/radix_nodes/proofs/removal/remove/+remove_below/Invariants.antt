use Rattle.std.proofs.Common.{length, ◌-◌}
use Rattle.radix_nodes.proofs.removal.remove.+remove_below.Given as goal

abbrev pub decreases-remove_below : goal.decreases-remove_below
decreases-remove_below g l = length l.list.now - l.depth
