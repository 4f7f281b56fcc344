-- How many rows there are, and the rows.
use Rattle.std.proofs.Common.{◌≡◌, ◌∙◌, ◌++◌, ap, append_assoc, flat_map, length, refl, subst}
use Rattle.std.specs.Option.{IfSome}
use Rattle.route_tool.specs.Answers.{below_answer, count_answer, row}
use Rattle.route_tool.specs.Routes.{routes_within}
use Rattle.route_tool.proofs.AnswerLemmas.{still_ok}
use Rattle.route_tool.proofs.answers.add_below.Goals as goal

pub returns-in_ok-add_count-in-Some-clause-text : goal.returns-in_ok-add_count-in-Some-clause-text
returns-in_ok-add_count-in-Some-clause-text g c =
    let text = g.A.Address.text in
    let old = c.args.out.now.items in
    let walk = c.in-Some.rows.walk in
    let within = routes_within g.A.Address.BITS g.A.Address.number c.args.routes.now c.args.network.now in
    let is : walk ≡ within = subst (λ o. IfSome o (λ rows. rows.walk ≡ within)) c.in-Some.is c.in_ok-rows.ensures.rows in
    still_ok c.add_rest.result c.add_rest.result _ _ refl
    (λ written. written ∙ ap (λ l. l ++ flat_map (row text) walk) (c.in_ok-add_count-in-Some.ensures.text ∙ ap (λ n. old ++ count_answer n) c.in-Some.rows.counted)
    ∙ append_assoc old (count_answer (length walk)) (flat_map (row text) walk) ∙ ap (λ rows. old ++ below_answer text rows) is)
    c.add_rest.ensures.text
