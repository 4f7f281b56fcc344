use Rattle.route_tool.proofs.CommandLemmas.{no_ipv4, no_request}
use Rattle.route_tool.proofs.command.parse_text.Goals.{then-may_be_ipv4+in_default-said, else-may_be_ipv4}
use Rattle.route_tool.proofs.command.parse_text.Goals as goal

pub returns-in-None : goal.returns-in-None
returns-in-None c =
    no_request c.args.text.now c.in-Some.word c.in-Some.rest.now c.in-Some.ensures
    (elim c.if-may_be_ipv4.branch [
      | then-may_be_ipv4+in_default-said w ↦ w.in_default-said.ensures
      | else-may_be_ipv4 w ↦ λ r _. no_ipv4 c.in-Some.rest.now (λ begun. let yes = c.may_be_ipv4.ensures begun in let no = w.if-may_be_ipv4.false in cc) r
    ])
    c.in-None.ensures
