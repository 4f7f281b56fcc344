use Rattle.std.proofs.Common.{length, ◌-◌}
use Rattle.radix_nodes.proofs.whole.values.+change_branch.Given as goal

abbrev pub decreases-change_branch : goal.decreases-change_branch
decreases-change_branch g l = length l.list.now - l.depth
