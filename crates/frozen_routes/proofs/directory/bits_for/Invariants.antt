use Rattle.std.proofs.Common.{◌-◌, ◌≤◌}
use Rattle.frozen_routes.proofs.directory.bits_for.Given as goal

abbrev pub invariant-loop-bits : goal.invariant-loop-bits
invariant-loop-bits l = record {
  some : 9 ≤ l.bits;
  few : l.bits ≤ 21;
}

abbrev pub decreases-loop-bits : goal.decreases-loop-bits
decreases-loop-bits l = 21 - l.bits
