use Rattle.std.proofs.Common.{◌≡◌, ◌++◌, ◌∷◌, [], ◌∙◌, ap, List, ℕ, refl, append_assoc, rules, sym}
use Rattle.line_sessions.specs.Answers.{IsToldBad}
use Rattle.line_sessions.proofs.SessionLemmas.Standing.{Goes-kept, IsOn-start, IsOn-told, Sends-on, Sends-told, Sends-written, append-fed}
use Rattle.line_sessions.proofs.session.Session.feed.Goals as goal

pub loop-line-init : goal.loop-line-init
loop-line-init g c = record { heard = ([], refl, λ b sent start at. IsOn-start _ b sent _ start _ _ at); noted = refl }

pub loop-line-preserved : goal.loop-line-preserved
loop-line-preserved g c =
    let before = c.loop-line.invariant.heard in
    let line : List ℕ = c.in-Some.line.now in
    record {
      heard = (
        (before.0 ++ line) ++ 10 ∷ [],
        append-fed before.0 line c.in-Some.after.now ∙ ap (λ (l : List ℕ). before.0 ++ l) (sym c.in-Some.ensures.parts) ∙ before.1,
        λ b sent start at.
            let on = before.2 b sent start at in
            let grouped : (b ++ before.0) ++ line ++ 10 ∷ [] ≡ b ++ ((before.0 ++ line) ++ 10 ∷ []) = simp append_assoc in
            IsOn-told _ _ _ c.feed_line.result c.in_ok-feed_line.field-0 _ _ _ sent _ _ _ start _ _ _ _ grouped (search rules) on (c.feed_line.ensures.told (b ++ before.0) (sent ++ on.0) start on.2 c.in-Some.ensures.line),
      );
      noted = search rules;
    }

pub returns-in_err-feed_line-clause-sent : goal.returns-in_err-feed_line-clause-sent
returns-in_err-feed_line-clause-sent g c = λ b sent start at.
    let before = c.loop-line.invariant.heard in
    let line : List ℕ = c.in-Some.line.now in
    let after : List ℕ = c.in-Some.after.now in
    let on = before.2 b sent start at in
    let whole : ((b ++ before.0) ++ line ++ 10 ∷ []) ++ after ≡ b ++ c.args.bytes.now =
    append-fed (b ++ before.0) line after ∙ append_assoc b before.0 (line ++ 10 ∷ after) ∙ ap (λ (l : List ℕ). b ++ l) (ap (λ (l : List ℕ). before.0 ++ l) (sym c.in-Some.ensures.parts) ∙ before.1) in
    Sends-told _ _ _ c.feed_line.result _ c.in_err-feed_line.field-0.0 _ _ after _ sent _ _ _ start _ _ _ _ _ whole (search rules) (search rules) on (c.feed_line.ensures.told (b ++ before.0) (sent ++ on.0) start on.2 c.in-Some.ensures.line)

pub returns-clause-sent : goal.returns-clause-sent
returns-clause-sent g c = λ b sent start at.
    let B = IsToldBad g.P.Program.is_bad g.P.Program.says c.send.new.self.conversation.remark.now in
    let before = c.loop-line.invariant.heard in
    let on = before.2 b sent start at in
    let heard : List ℕ = (b ++ before.0) ++ c.loop-line.rest.now in
    let whole : heard ≡ b ++ c.args.bytes.now = append_assoc b before.0 c.loop-line.rest.now ∙ ap (λ (l : List ℕ). b ++ l) before.1 in
    Sends-on _ B _ c.send.result _ heard _ sent _ _ _ start _ _ _ _ whole on
    (Sends-written _ B _ c.buffer_rest-outcome.result _ heard (sent ++ on.0) _ _ start _ _ _
    (Goes-kept g.P.Program.replies B g.P.Program.gives_up c.buffer_rest-outcome.result (b ++ before.0) c.loop-line.rest.now (sent ++ on.0) start _ _ _ c.in_default.ensures.none c.buffer_rest-outcome.ensures.kept c.buffer_rest-outcome.ensures.fault c.buffer_rest-outcome.ensures.conversation on.2)
    c.send.ensures.sent c.send.ensures.cleared)
