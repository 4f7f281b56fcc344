use Rattle.std.proofs.Common.{refl}
use Rattle.route_tool.proofs.CommandLemmas.{no_network, no_host, is_host}
use Rattle.route_tool.proofs.command.network_of.Goals as goal

pub returns-in-Err : goal.returns-in-Err
returns-in-Err g c =
    no_network g.A.Address.BITS g.A.Address.number g.A.Address.is_text c.args.text.now c.in-Some.field-0 c.in-Some.ensures.cases c.in-Err.ensures.value

pub returns-in_err-host-in-None : goal.returns-in_err-host-in-None
returns-in_err-host-in-None g c =
    rw c.from_residual.ensures
    (no_host g.A.Address.BITS g.A.Address.number g.A.Address.is_text c.args.text.now c.in-None.ensures.cases g.met.A.Address.bits_fit.1 c.in_err-host-in-None.ensures)

pub returns-in_ok-host-in-None : goal.returns-in_ok-host-in-None
returns-in_ok-host-in-None g c =
    rw c.host.ensures
    (is_host g.A.Address.BITS g.A.Address.number g.A.Address.is_text c.args.text.now c.in-None.ensures.cases
    (record { base = c.in_ok-host-in-None.host; bits = g.A.Address.BITS }) c.in_ok-host-in-None.ensures refl)
