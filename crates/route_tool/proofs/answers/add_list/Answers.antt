-- The count, the rows of IPv4, and those of IPv6.
use Rattle.std.proofs.Common.{◌∙◌, ◌++◌, ap, flat_map, refl}
use Rattle.route_tool.specs.Answers.{count_answer, count_of, ipv4_row, ipv6_row}
use Rattle.route_tool.specs.Routes.{in_order}
use Rattle.route_tool.proofs.AnswerLemmas.{still_ok, three_parts}
use Rattle.route_tool.proofs.answers.add_list.Goals as goal

pub returns-clause-text : goal.returns-clause-text
returns-clause-text c =
    let old = c.args.out.now.items in
    let t = c.args.table.now in
    still_ok c.add_rest-2.result c.add_rest-2.result _ _ refl
    (λ written. three_parts old c.add_count.new.out.items c.add_rest.new.out.items c.add_rest-2.new.out.items
    (count_answer (count_of t)) (flat_map ipv4_row (in_order t.v4)) (flat_map ipv6_row (in_order t.v6))
    (c.in_ok-add_count.ensures.text ∙ ap (λ n. old ++ count_answer n) c.len.ensures)
    (c.in_ok-add_rest.ensures.text ∙ ap (λ rows. c.add_count.new.out.items ++ flat_map ipv4_row rows) c.rest.ensures.walk)
    (written ∙ ap (λ rows. c.add_rest.new.out.items ++ flat_map ipv6_row rows) c.rest-2.ensures.walk))
    c.add_rest-2.ensures.text
