-- The count, the rows of IPv4, and those of IPv6.
use Rattle.std.proofs.Common.{◌≡◌, ◌∙◌, ◌+◌, ◌++◌, length, flat_map, map, ap, arith, refl}
use Rattle.std.proofs.lemmas.List.{length-map}
use Rattle.route_tool.specs.Aggregates.{route_of}
use Rattle.route_tool.specs.Answers.{count_answer, ipv4_row, ipv6_row, rows_answer}
use Rattle.route_tool.proofs.AnswerLemmas.{three_parts}
use Rattle.route_tool.proofs.answers.add_aggregate.Goals as goal

pub returns-clause-answer : goal.returns-clause-answer
returns-clause-answer c =
    let old = c.args.out.now.items in
    let v4 = map route_of c.in_ok-v4.v4.items in
    let v6 = map route_of c.in_ok-v6.v6.items in
    let count : c.len.result + c.len-2.result ≡ length v4 + length v6 =
    omega (arith, c.len.ensures, c.len-2.ensures, c.in_ok-v4.v4.ok.0, c.in_ok-v6.v6.ok.0, length-map c.in_ok-v4.v4.items route_of, length-map c.in_ok-v6.v6.items route_of) in
    let text =
    three_parts old c.add_count.new.out.items c.add_rows.new.out.items c.add_rows-2.new.out.items (count_answer (length v4 + length v6)) (flat_map ipv4_row v4) (flat_map ipv6_row v6)
    (c.in_ok-add_count.ensures.text ∙ ap (λ n. old ++ count_answer n) count)
    (c.in_ok-add_rows.ensures.text ∙ ap (λ rows. c.add_count.new.out.items ++ flat_map ipv4_row (map route_of rows)) c.deref.ensures.value)
    (c.in_ok-add_rows-2.ensures.text ∙ ap (λ rows. c.add_rows.new.out.items ++ flat_map ipv6_row (map route_of rows)) c.deref-2.ensures.value) in
    (rows_answer v4 v6, text, (v4, v6, c.in_ok-v4.ensures, c.in_ok-v6.ensures, refl))
