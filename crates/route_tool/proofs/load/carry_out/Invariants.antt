-- The lines so far are carried out.
use Rattle.std.proofs.Common.{length, option_copied}
use Rattle.route_tool.specs.Loads.{lines_left}
use Rattle.route_tool.proofs.LoadLemmas.{AreDone}
use Rattle.route_tool.proofs.load.carry_out.Given as goal

abbrev pub invariant-loop-rest : goal.invariant-loop-rest
invariant-loop-rest l = record { done : AreDone l.fn.text (option_copied l.rest) l.fn.table l.table }

abbrev pub decreases-loop-rest : goal.decreases-loop-rest
decreases-loop-rest l = length (lines_left (option_copied l.rest))
