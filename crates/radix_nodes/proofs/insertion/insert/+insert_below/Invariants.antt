use Rattle.std.proofs.Common.{length, ◌-◌}
use Rattle.radix_nodes.proofs.insertion.insert.+insert_below.Given as goal

abbrev pub decreases-insert_below : goal.decreases-insert_below
decreases-insert_below g l = length l.list.now - l.depth
