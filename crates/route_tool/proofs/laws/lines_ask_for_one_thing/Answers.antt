use Rattle.route_tool.proofs.OneRequest.{one_line}
use Rattle.route_tool.proofs.laws.lines_ask_for_one_thing.Goals as goal

pub returns : goal.returns
returns c = one_line
