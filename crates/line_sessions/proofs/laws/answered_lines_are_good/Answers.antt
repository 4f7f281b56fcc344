use Rattle.line_sessions.proofs.AnswerLemmas.{good_lines}
use Rattle.line_sessions.proofs.laws.answered_lines_are_good.Goals as goal

pub returns : goal.returns
returns g c = good_lines g.P.Program.replies g.P.Program.is_bad g.met.P.Program.bad_is_unanswered
