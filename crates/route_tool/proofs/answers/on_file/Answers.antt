use Rattle.route_tool.specs.Answers.{IsFileOpen}
use Rattle.route_tool.proofs.AnswerLemmas.{left_or}
use Rattle.route_tool.proofs.answers.on_file.Goals as goal

pub returns-in-Open-clause-left : goal.returns-in-Open-clause-left
returns-in-Open-clause-left g c =
    rw c.in-Open.is (left_or c.open.result _ _ (IsFileOpen c.args.table.now c.open.new.table) _ (λ answer opened. opened) c.open.ensures.left)
