-- A bad line is answered by what is wrong with it.
use Rattle.std.proofs.Common.{inr, refl}
use Rattle.route_tool.specs.Answers.{bad_answer}
use Rattle.route_tool.specs.Reasons.{reason_text}
use Rattle.route_tool.proofs.AnswerLemmas.{still_ok}
use Rattle.route_tool.proofs.engine.LenientProgram.answer.Goals as goal

pub returns-in-None-clause-answered : goal.returns-in-None-clause-answered
returns-in-None-clause-answered g c =
    let remark = reason_text c.wrong_with.result in
    still_ok c.add_reason.result c.map_err-in-None.result _ _ c.map_err-in-None.ensures.variant
    (λ added. (bad_answer remark, inr (c.in-None.ensures, refl, remark, (c.wrong_with.result, c.wrong_with.ensures, refl), refl), added))
    c.add_reason.ensures.text
