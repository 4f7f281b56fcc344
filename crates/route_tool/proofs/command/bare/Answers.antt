use Rattle.std.proofs.Common.{rules}
use Rattle.route_tool.proofs.CommandLemmas.{no_text}
use Rattle.route_tool.proofs.command.bare.Goals as goal

pub returns-in-None : goal.returns-in-None
returns-in-None c = search (rules, no_text)
