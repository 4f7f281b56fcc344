use Rattle.std.proofs.Common.{length, ◌-◌}
use Rattle.radix_nodes.proofs.removal.cut_branch.+cut_below.Given as goal

abbrev pub decreases-cut_below : goal.decreases-cut_below
decreases-cut_below g l = length l.list.now - l.depth
