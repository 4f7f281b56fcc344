use Rattle.route_tool.proofs.LoadLemmas.{part_alone, part_before}
use Rattle.route_tool.proofs.edits.first_part.Goals as goal

pub returns-in-Some : goal.returns-in-Some
returns-in-Some c = part_before c.args.bytes.now c.in-Some.line.now c.in-Some.after.now c.in-Some.ensures.parts c.in-Some.ensures.line

pub returns-in-None : goal.returns-in-None
returns-in-None c = part_alone c.args.bytes.now c.in-None.ensures.none
