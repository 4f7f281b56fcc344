use Rattle.line_sessions.proofs.LineLemmas.{joined-cut}
use Rattle.line_sessions.proofs.laws.lines_join.Goals as goal

pub returns : goal.returns
returns c = joined-cut
