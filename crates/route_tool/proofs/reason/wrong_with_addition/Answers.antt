use Rattle.std.proofs.Common.{inl, inr, refl}
use Rattle.route_tool.proofs.CommandLemmas.{no_shown_hop, no_space_no_hop, shown_hop}
use Rattle.route_tool.proofs.reason.wrong_with_addition.Goals as goal

pub returns-then-is_hop : goal.returns-then-is_hop
returns-then-is_hop c = inl (refl, shown_hop c.args.rest.now (c.in-Some.field-0-0, c.in-Some.hop) c.in-Some.ensures.cases (c.is_hop.ensures.0 c.if-is_hop.true))

pub returns-else-is_hop : goal.returns-else-is_hop
returns-else-is_hop c =
    inr (refl, no_shown_hop c.args.rest.now (c.in-Some.field-0-0, c.in-Some.hop) c.in-Some.ensures.cases (λ is. let yes = c.is_hop.ensures.1 is in let no = c.if-is_hop.false in cc))

pub returns-in-None : goal.returns-in-None
returns-in-None c = inr (refl, no_space_no_hop c.args.rest.now c.in-None.ensures.cases)
