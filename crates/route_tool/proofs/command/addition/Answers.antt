use Rattle.route_tool.proofs.CommandLemmas.{no_space, no_hop, no_target, is_addition}
use Rattle.route_tool.proofs.command.addition.Goals as goal

pub returns-in_err-text : goal.returns-in_err-text
returns-in_err-text g c = rw c.from_residual.ensures (no_space g.A.Address.BITS g.A.Address.number g.A.Address.is_text c.args.rest.now c.in_err-text.ensures.cases)

pub returns-then-not-is_hop : goal.returns-then-not-is_hop
returns-then-not-is_hop g c =
    no_hop g.A.Address.BITS g.A.Address.number g.A.Address.is_text c.args.rest.now (c.in_ok-text.text, c.in_ok-text.hop) c.in_ok-text.ensures.cases
    (λ is. let yes = c.is_hop.ensures.1 is in let no = c.if-not-is_hop.true in cc)

pub returns-in_err-network : goal.returns-in_err-network
returns-in_err-network g c =
    rw c.from_residual-in_err-network.ensures
    (no_target g.A.Address.BITS g.A.Address.number g.A.Address.is_text c.args.rest.now (c.in_ok-text.text, c.in_ok-text.hop) c.in_ok-text.ensures.cases c.in_err-network.ensures)

pub returns : goal.returns
returns g c =
    is_addition g.A.Address.BITS g.A.Address.number g.A.Address.is_text c.args.rest.now (c.in_ok-text.text, c.in_ok-text.hop) c.in_ok-text.ensures.cases
    c.in_ok-network.network c.in_ok-network.ensures (c.is_hop.ensures.0 c.if-not-is_hop.false)
