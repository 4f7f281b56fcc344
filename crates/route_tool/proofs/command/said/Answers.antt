use Rattle.route_tool.proofs.CommandLemmas.{no_add, no_del, no_below}
use Rattle.route_tool.proofs.command.said.Goals as goal

pub returns-in_err-network-in-Del : goal.returns-in_err-network-in-Del
returns-in_err-network-in-Del g c =
    rw c.from_residual.ensures
    rw c.in-Del.is
    (no_del g.A.Address.BITS g.A.Address.number g.A.Address.is_text c.args.rest.now c.in_err-network-in-Del.ensures)

pub returns-in_err-network-in-Below : goal.returns-in_err-network-in-Below
returns-in_err-network-in-Below g c =
    rw c.from_residual-in_err-network-in-Below.ensures
    rw c.in-Below.is
    (no_below g.A.Address.BITS g.A.Address.number g.A.Address.is_text c.args.rest.now c.in_err-network-in-Below.ensures)

pub returns-in-None : goal.returns-in-None
returns-in-None g c =
    rw c.in-Add.is (no_add g.A.Address.BITS g.A.Address.number g.A.Address.is_text c.args.rest.now c.in-None.ensures)
