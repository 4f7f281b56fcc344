use Rattle.std.proofs.Common.{take}
use Rattle.address_ranges.specs.Rows.{AreInTurn}
use Rattle.address_ranges.proofs.rows.check.Given as goal

abbrev pub invariant-loop-i : goal.invariant-loop-i
invariant-loop-i g l = AreInTurn g.A.Address.number (take l.i l.ranges)
