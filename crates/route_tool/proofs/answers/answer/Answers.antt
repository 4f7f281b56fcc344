-- The table stays as it is.
use Rattle.std.proofs.Common.{refl}
use Rattle.route_tool.specs.Answers.{IsAggregateAnswer, IsAnswer}
use Rattle.route_tool.specs.Requests as asked
use Rattle.route_tool.proofs.AnswerLemmas.{answers_too}
use Rattle.route_tool.proofs.answers.answer.Goals as goal

pub returns-in-OnFile-clause-left : goal.returns-in-OnFile-clause-left
returns-in-OnFile-clause-left g c = rw c.in-OnFile.is c.on_file.ensures.left

pub returns-in-Aggregate-clause-answer : goal.returns-in-Aggregate-clause-answer
returns-in-Aggregate-clause-answer g c =
    rw c.in-Aggregate.is
    (answers_too c.add_aggregate.result c.args.out.now.items c.add_aggregate.new.out.items (IsAggregateAnswer c.args.table.now) (IsAnswer asked.Aggregate c.args.table.now c.args.table.now)
    (λ answer is. (is, refl)) c.add_aggregate.ensures.answer)
