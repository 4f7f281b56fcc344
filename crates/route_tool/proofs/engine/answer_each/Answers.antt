use Rattle.std.proofs.Common.{◌≡◌, subst}
use Rattle.std.specs.Process.{exit_status}
use Rattle.line_sessions.specs.Sessions.{Ran}
use Rattle.route_tool.specs.declared.table.Table.{Table}
use Rattle.route_tool.specs.Reasons.{IsRemarkOf}
use Rattle.route_tool.specs.Sessions.{GivesUp, IsNever, RepliesToEach, no_routes}
use Rattle.route_tool.proofs.engine.answer_each.Goals as goal

pub returns : goal.returns
returns g c =
    let none : c.new.result ≡ no_routes = λ i. record { v4 = c.new.ensures.v4 i; v6 = c.new.ensures.v6 i } in
    subst (λ (t : Table). Ran RepliesToEach IsNever GivesUp IsRemarkOf c.args.reader.now c.run.new.reader c.args.writer.now c.run.new.writer c.args.errors.now c.run.new.errors t (exit_status c.run.result)) none c.run.ensures
