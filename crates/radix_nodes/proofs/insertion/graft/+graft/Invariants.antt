use Rattle.std.proofs.Common.{length, ◌-◌}
use Rattle.radix_nodes.proofs.insertion.graft.+graft.Given as goal

abbrev pub decreases-graft : goal.decreases-graft
decreases-graft g l = length l.list.now - l.depth
