use Rattle.std.proofs.Common.{ℕ, List, subst, sym}
use Rattle.std.specs.Borrow.{Bor}
use Rattle.line_sessions.specs.Answers.{IsToldBad}
use Rattle.line_sessions.specs.Standing.{Goes}
use Rattle.line_sessions.proofs.SessionLemmas.Standing.{Finishes-sends, Sends-written}
use Rattle.line_sessions.proofs.session.Session.finish.Goals as goal

pub returns-clause-sent : goal.returns-clause-sent
returns-clause-sent g c = λ b sent start at.
    let ends = c.end_last_line-outcome.ensures.answered b sent start at in
    let goes = subst
    (λ (m : Bor (List ℕ)). Goes g.P.Program.replies (IsToldBad g.P.Program.is_bad g.P.Program.says m.now) g.P.Program.gives_up c.end_last_line-outcome.result ends.0 sent start
    c.end_last_line-outcome.new.program c.end_last_line-outcome.new.self)
    (sym c.send.ensures.remark) ends.2 in
    Finishes-sends _ _ _ _ ends.0 b sent _ _ start _ _ ends.1 (Sends-written _ _ _ _ _ ends.0 sent _ _ start _ _ _ goes c.send.ensures.sent c.send.ensures.cleared)
