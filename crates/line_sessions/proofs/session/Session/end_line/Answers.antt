use Rattle.std.proofs.Common.{◌≡◌, ◌++◌, ◌∷◌, [], ◌∙◌, List, ℕ, Ok, Err, rules, sym}
use Rattle.std.proofs.lemmas.List.{nil_from_length}
use Rattle.line_sessions.specs.Answers.{IsToldBad}
use Rattle.line_sessions.specs.declared.session.Session.{Session}
use Rattle.line_sessions.proofs.LineLemmas.{rest-fed, rest-kept}
use Rattle.line_sessions.proofs.SessionLemmas.Standing.{Breaks-heard, Breaks-refused, Goes-err, Goes-kept, Goes-reply, IsAnswered-fed, IsAnswered-kept, OnOk-always}
use Rattle.line_sessions.proofs.session.Session.end_line.Goals as goal

pub returns-then-is_empty-clause-answered : goal.returns-then-is_empty-clause-answered
returns-then-is_empty-clause-answered g c = λ b sent start at free.
    let B = IsToldBad g.P.Program.is_bad g.P.Program.says c.answer_line.new.self.remark.now in
    let line : List ℕ = c.args.bytes.now in
    let none : c.args.self.now.open_line.items ≡ [] = nil_from_length _ (search rules) in
    let ends = rest-kept b line [] free (sym none ∙ at.rest) in
    Goes-reply _ B g.P.Program.gives_up c.answer_line.result (b ++ line) sent line start _ _ _ _ ends (IsAnswered-kept _ b line sent start _ _ free at.answered)
    c.answer_line.ensures.answered c.answer_line.ensures.count (OnOk-always c.answer_line.result _ none) c.answer_line.ensures.refused c.answer_line.ensures.unchanged

pub returns-in_err-buffer_rest-clause-answered : goal.returns-in_err-buffer_rest-clause-answered
returns-in_err-buffer_rest-clause-answered g c = λ b sent start at free.
    let B = IsToldBad g.P.Program.is_bad g.P.Program.says c.buffer_rest.new.self.conversation.remark.now in
    let e = c.in_err-buffer_rest.field-0.0 in
    Goes-err g.P.Program.replies B g.P.Program.gives_up c.from_residual.result e (b ++ c.args.bytes.now ++ 10 ∷ []) sent start c.args.program.now c.buffer_rest.new.self (search rules)
    (Breaks-heard g.P.Program.replies B g.P.Program.gives_up e (b ++ c.args.bytes.now) (10 ∷ []) start c.args.program.now (sent ++ c.buffer_rest.new.self.conversation.answers.items)
    (Goes-kept g.P.Program.replies B g.P.Program.gives_up {U = Unit {0}} (Err e) b c.args.bytes.now sent start c.args.program.now c.args.self.now c.buffer_rest.new.self free tt c.in_err-buffer_rest.ensures.fault c.in_err-buffer_rest.ensures.conversation at))

pub returns-in_err-answer_line-clause-answered : goal.returns-in_err-answer_line-clause-answered
returns-in_err-answer_line-clause-answered g c = λ b sent start at free.
    let B = IsToldBad g.P.Program.is_bad g.P.Program.says c.answer_line-2.new.self.remark.now in
    let heard = b ++ c.args.bytes.now in
    let kept = Goes-kept g.P.Program.replies B g.P.Program.gives_up {U = Unit {0}} (Ok c.in_ok-buffer_rest.field-0) b c.args.bytes.now sent start c.args.program.now c.args.self.now c.buffer_rest.new.self free c.in_ok-buffer_rest.ensures.kept tt c.in_ok-buffer_rest.ensures.conversation at in
    let left : Session = record { conversation = c.answer_line-2.new.self; open_line = c.buffer_rest.new.self.open_line } in
    Goes-err g.P.Program.replies B g.P.Program.gives_up c.from_residual-in_err-answer_line.result c.in_err-answer_line.field-0.0 (heard ++ 10 ∷ []) sent start c.answer_line-2.new.program left (search rules)
    (Breaks-refused g.P.Program.replies B g.P.Program.gives_up heard sent c.as_slice.result.now start c.args.program.now c.answer_line-2.new.program c.buffer_rest.new.self.conversation c.answer_line-2.new.self c.in_err-answer_line.field-0.0 (c.as_slice.ensures.value ∙ kept.rest) kept.answered c.in_err-answer_line.ensures.refused c.in_err-answer_line.ensures.unchanged)

pub returns-clause-answered : goal.returns-clause-answered
returns-clause-answered g c = λ b sent start at free.
    let heard = b ++ c.args.bytes.now in
    let kept = Goes-kept g.P.Program.replies g.P.Program.is_bad g.P.Program.gives_up {U = Unit {0}} (Ok c.in_ok-buffer_rest.field-0) b c.args.bytes.now sent start c.args.program.now c.args.self.now c.buffer_rest.new.self free c.in_ok-buffer_rest.ensures.kept tt c.in_ok-buffer_rest.ensures.conversation at in
    record {
      rest = c.clear.ensures.items ∙ sym (rest-fed heard);
      answered =
          IsAnswered-fed _ g.P.Program.is_bad g.P.Program.gives_up heard sent c.as_slice.result.now start c.args.program.now c.answer_line-2.new.program c.buffer_rest.new.self.conversation c.answer_line-2.new.self
          (c.as_slice.ensures.value ∙ kept.rest) kept.answered c.in_ok-answer_line.ensures.answered c.in_ok-answer_line.ensures.count;
    }
