use Rattle.std.proofs.Common.{◌≡◌, inl}
use Rattle.route_tool.specs.Answers.{IsFileOpen}
use Rattle.route_tool.proofs.AnswerLemmas.{left_as}
use Rattle.route_tool.proofs.image_files.open.Goals as goal

pub returns-in-Ok-clause-left : goal.returns-in-Ok-clause-left
returns-in-Ok-clause-left c d =
    left_as d.open_bytes.result (d.open_bytes.new.table ≡ d.args.table.now) _ (IsFileOpen d.args.table.now d.open_bytes.new.table) (λ answer opened. inl (_, opened)) d.open_bytes.ensures.left
