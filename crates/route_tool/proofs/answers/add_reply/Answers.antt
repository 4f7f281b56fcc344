use Rattle.std.proofs.Common.{refl}
use Rattle.route_tool.specs.Answers.{added_answer, hop_answer}
use Rattle.route_tool.specs.Routes.{hop_at}
use Rattle.route_tool.proofs.AnswerLemmas.{left_after}
use Rattle.route_tool.proofs.answers.add_reply.Goals as goal

pub returns-in_err-add_added_answer-in-Add-clause-left : goal.returns-in_err-add_added_answer-in-Add-clause-left
returns-in_err-add_added_answer-in-Add-clause-left g c =
    rw c.in-Add.is
    (left_after c.from_residual-in_err-add_added_answer-in-Add.result _ _ (added_answer (hop_at g.A.Address.BITS g.A.Address.number c.args.routes.now c.in-Add.network)) (refl, c.in_ok-add-in-Add.ensures.added))

pub returns-in_err-add_hop_answer-in-Del-clause-left : goal.returns-in_err-add_hop_answer-in-Del-clause-left
returns-in_err-add_hop_answer-in-Del-clause-left g c =
    rw c.in-Del.is
    (left_after c.from_residual-in_err-add_hop_answer-in-Del.result _ _ (hop_answer (hop_at g.A.Address.BITS g.A.Address.number c.args.routes.now c.in-Del.network)) (refl, c.in_ok-old-in-Del.ensures.removed))
