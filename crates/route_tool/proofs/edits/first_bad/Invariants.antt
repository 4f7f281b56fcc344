-- The lines so far are good.
use Rattle.std.proofs.Common.{length, option_copied}
use Rattle.route_tool.specs.Loads.{lines_left}
use Rattle.route_tool.proofs.LoadLemmas.{AreRead}
use Rattle.route_tool.proofs.edits.first_bad.Given as goal

abbrev pub invariant-loop-rest : goal.invariant-loop-rest
invariant-loop-rest l = record { read : AreRead l.fn.text (option_copied l.rest) l.number }

abbrev pub decreases-loop-rest : goal.decreases-loop-rest
decreases-loop-rest l = length (lines_left (option_copied l.rest))
