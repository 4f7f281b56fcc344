use Rattle.std.proofs.Common.{ℕ, List, [], ◌∷◌, ◌++◌, rules, subst, sym}
use Rattle.std.specs.Borrow.{Bor}
use Rattle.line_sessions.specs.Answers.{IsToldBad}
use Rattle.line_sessions.specs.Standing.{Goes}
use Rattle.line_sessions.proofs.SessionLemmas.Standing.{Sends-written, Tells-sends, Tells-waits}
use Rattle.line_sessions.proofs.session.Session.feed_line.Goals as goal

pub returns-then-is_err-clause-told : goal.returns-then-is_err-clause-told
returns-then-is_err-clause-told g c = λ b sent start at free.
    let goes = subst
    (λ (m : Bor (List ℕ)). Goes g.P.Program.replies (IsToldBad g.P.Program.is_bad g.P.Program.says m.now) g.P.Program.gives_up c.end_line-outcome.result (b ++ c.args.line.now ++ 10 ∷ []) sent start
    c.end_line-outcome.new.program c.end_line-outcome.new.self)
    (sym c.send.ensures.remark) (c.end_line-outcome.ensures.answered b sent start at free) in
    Tells-sends _ _ _ _ _ sent _ _ start _ _ (Sends-written _ _ _ _ _ _ sent _ _ start _ _ _ goes c.send.ensures.sent c.send.ensures.cleared)

pub returns-clause-told : goal.returns-clause-told
returns-clause-told g c = λ b sent start at free.
    Tells-waits _ _ _ c.end_line-outcome.result _ _ sent _ start _ _ (search rules) (c.end_line-outcome.ensures.answered b sent start at free)
