use Rattle.std.proofs.Common.{◌≢◌, [], ◌++◌, ◌∷◌, ◌∙◌, ap, append-nil, List, ℕ, rules}
use Rattle.line_sessions.specs.Lines.{ended_lines}
use Rattle.line_sessions.proofs.LineLemmas.{all_lines-fed}
use Rattle.line_sessions.proofs.SessionLemmas.Standing.{HasNoFeed-nil}
use Rattle.line_sessions.proofs.session.Session.end_last_line.Goals as goal

pub returns-clause-answered : goal.returns-clause-answered
returns-clause-answered g c = λ b sent start at.
    let some : c.args.self.now.open_line.items ≢ [] = search rules in
    (b ++ [] ++ 10 ∷ [], ap (λ (l : List ℕ). ended_lines (l ++ 10 ∷ [])) (append-nil b) ∙ all_lines-fed b (λ none. some (at.rest ∙ none)), c.end_line.ensures.answered b sent start at HasNoFeed-nil)
