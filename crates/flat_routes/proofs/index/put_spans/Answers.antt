use Rattle.std.proofs.Common.{◌≡◌, ℕ, ◌+◌, ◌*◌, ◌≤◌, List, get_or, ap, subst, sym, arith, ◌∙◌}
use Rattle.std.proofs.lemmas.Nat.{mul-le}
use Rattle.radix_keys.specs.Networks.{Net}
use Rattle.image_parts.specs.Parts.{u32_in}
use Rattle.frozen_routes.specs.Routes.{AreRising, base_numbers, bit_counts}
use Rattle.flat_routes.specs.Images.{HasNoTurn, IsKnownAt, IsEdge, IsTurn, bases, image_rows, sizes, start_from, start_size, width}
use Rattle.flat_routes.specs.Written.{ChangesWithin, most_span}
use Rattle.flat_routes.proofs.ImageLemmas.{all_rise, length-firsts}
use Rattle.flat_routes.proofs.IndexLemmas.{begun_there, next_start, one_last_put, one_more_put, place_next, place_up, rows_before, span_most}
use Rattle.flat_routes.proofs.SpanLemmas.{edges_more, half_edge, most_edges}
use Rattle.flat_routes.proofs.WriteLemmas.{change_through, linked_kept, plan_kept, rows_same}
use Rattle.flat_routes.proofs.index.put_spans.Goals as goal

pub begun_at-begun-requires-clause-plan : goal.begun_at-begun-requires-clause-plan
begun_at-begun-requires-clause-plan c =
    let change = c.loop-span.invariant.change in
    plan_kept c.args.wide c.args.out.now c.loop-span.out c.args.plan (λ k l. change.before k (omega (arith, l, c.requires.place)))
    (omega (arith, c.requires.plan.inside, change.same_length)) c.requires.plan

pub begun_at-begun-requires-clause-linked : goal.begun_at-begun-requires-clause-linked
begun_at-begun-requires-clause-linked c =
    let change = c.loop-span.invariant.change in
    linked_kept c.args.wide c.args.out.now c.loop-span.out c.args.plan c.requires.plan (begun_at-begun-requires-clause-plan c)
    (λ j _ l. change.before j (omega (arith, l, c.size_of_rows.ensures.value))) c.args.plan.rows c.requires.linked

pub begun_at-begun-requires-clause-before : goal.begun_at-begun-requires-clause-before
begun_at-begun-requires-clause-before c = λ k l.
    let change = c.loop-span.invariant.change in
    let known = c.loop-span.invariant.known in
    let same = rows_same c.args.wide c.args.out.now c.loop-span.out c.args.plan c.requires.plan (begun_at-begun-requires-clause-plan c)
    (λ j _ m. change.before j (omega (arith, m, c.size_of_rows.ensures.value))) in
    omega (arith, ap (λ rs. get_or (base_numbers (λ n. n) rs) k 0) same, known.2 k l, known.1)

pub turn-requires-clause-plan : goal.turn-requires-clause-plan
turn-requires-clause-plan c =
    let change = c.loop-span.invariant.change in
    let put = c.put_u32.ensures in
    plan_kept c.args.wide c.args.out.now c.put_u32.new.out c.args.plan
    (λ k l. put.before k (omega (arith, l, c.requires.place)) ∙ change.before k (omega (arith, l, c.requires.place)))
    (omega (arith, c.requires.plan.inside, change.same_length, put.length)) c.requires.plan

pub turn-requires-clause-linked : goal.turn-requires-clause-linked
turn-requires-clause-linked c =
    let change = c.loop-span.invariant.change in
    let rows = c.size_of_rows.ensures.value in
    linked_kept c.args.wide c.args.out.now c.put_u32.new.out c.args.plan c.requires.plan (turn-requires-clause-plan c)
    (λ j _ l. c.put_u32.ensures.before j (omega (arith, l, rows)) ∙ change.before j (omega (arith, l, rows))) c.args.plan.rows c.requires.linked

-- what is found behind an address by the rows of other bytes is found by the same rows
turn_there : (rs us : List (Net ℕ × ℕ)) → us ≡ rs → (known found : List (Net ℕ × ℕ) → Type 0) → (known us → found us) → known rs → found rs
turn_there rs us same known found turn begun = subst (λ xs. known xs → found xs) same turn begun

pub returns-in_default-clause-spans : goal.returns-in_default-clause-spans
returns-in_default-clause-spans c =
    let wide = c.args.wide in
    let w = width wide in
    let plan = c.args.plan in
    let old = c.args.out.now in
    let out = c.loop-span.out in
    let mid = c.put_u32.new.out in
    let at = plan.rows_at + c.size_of_rows.result in
    let start = c.loop-span.start in
    let begun = c.begun_at-begun.result in
    let end = ap (λ k. plan.rows_at + k) c.size_of_rows.ensures.value in
    let change = c.loop-span.invariant.change in
    let put = c.put_u32.ensures in
    let same_out = rows_before wide old out plan at c.requires.place end (λ k l. change.before k l) (omega (arith, c.requires.plan.inside, change.same_length)) c.requires.plan in
    let same_mid = rows_before wide old mid plan at c.requires.place end (λ k l. put.before k (omega (arith, l)) ∙ change.before k l)
    (omega (arith, c.requires.plan.inside, change.same_length, put.length)) c.requires.plan in
    let known = begun_there wide old out c.loop-span.begun begun start same_out c.begun_at-begun.ensures.begun c.loop-span.invariant.known in
    let n = c.loop-span.span in
    let place = ap (λ k. at + (k + 4) * n + k) c.start_size-size.ensures.value in
    let none = turn_there (image_rows wide old) (image_rows wide mid) same_mid (λ rs. IsKnownAt w (base_numbers (λ n. n) rs) (bit_counts rs) start begun)
    (λ rs. HasNoTurn w (base_numbers (λ n. n) rs) (bit_counts rs) start begun.around) (c.in_default.ensures.turn start) known in
    one_last_put wide c.args.is_half (bases wide old) (sizes wide old) at n begun.around start out mid (λ k l. put.before k (omega (arith, l, place))) c.loop-span.invariant.put
    c.loop-span.invariant.start (ap (u32_in mid) (sym place) ∙ put.number) none

pub put_start-requires-in-loop-span-clause-room : goal.put_start-requires-in-loop-span-clause-room
put_start-requires-in-loop-span-clause-room c =
    let wide = c.args.wide in
    let w = width wide in
    let plan = c.args.plan in
    let old = c.args.out.now in
    let out = c.loop-span.out in
    let mid = c.put_u32.new.out in
    let at = plan.rows_at + c.size_of_rows.result in
    let start = c.loop-span.start in
    let begun = c.begun_at-begun.result in
    let end = ap (λ k. plan.rows_at + k) c.size_of_rows.ensures.value in
    let change = c.loop-span.invariant.change in
    let put = c.put_u32.ensures in
    let same_out = rows_before wide old out plan at c.requires.place end (λ k l. change.before k l) (omega (arith, c.requires.plan.inside, change.same_length)) c.requires.plan in
    let same_mid = rows_before wide old mid plan at c.requires.place end (λ k l. put.before k (omega (arith, l)) ∙ change.before k l)
    (omega (arith, c.requires.plan.inside, change.same_length, put.length)) c.requires.plan in
    let known = begun_there wide old out c.loop-span.begun begun start same_out c.begun_at-begun.ensures.begun c.loop-span.invariant.known in
    let turn = turn_there (image_rows wide old) (image_rows wide mid) same_mid (λ rs. IsKnownAt w (base_numbers (λ n. n) rs) (bit_counts rs) start begun)
    (λ rs. IsTurn w (base_numbers (λ n. n) rs) (bit_counts rs) start begun.around c.in-Some.next) (c.in-Some.ensures.turn start) known in
    let n = c.loop-span.span in
    let s = start_size wide c.args.is_half + 4 in
    let place = ap (λ k. at + (k + 4) * n + k) c.start_size-size.ensures.value in
    let more = edges_more w (bases wide old) (sizes wide old) start c.in-Some.next turn.behind turn.edge in
    let few : n + 1 ≤ 2 * plan.rows = omega (arith, c.loop-span.invariant.few, more, most_edges w (bases wide old) (sizes wide old) c.in-Some.next, length-firsts wide old, c.requires.plan.rows) in
    let room = mul-le s (2 * plan.rows + 1) (most_span wide) (2 * plan.rows + 1) (span_most wide c.args.is_half) (omega arith) in
    omega (arith, place, place_next s n, place_next s (n + 1), place_up s (n + 1 + 1) (2 * plan.rows + 1) (omega (arith, few)), room, end, c.requires.room, change.same_length, put.length)

pub put_start-requires-in-loop-span-clause-fits : goal.put_start-requires-in-loop-span-clause-fits
put_start-requires-in-loop-span-clause-fits c =
    let wide = c.args.wide in
    let w = width wide in
    let plan = c.args.plan in
    let old = c.args.out.now in
    let out = c.loop-span.out in
    let mid = c.put_u32.new.out in
    let at = plan.rows_at + c.size_of_rows.result in
    let start = c.loop-span.start in
    let begun = c.begun_at-begun.result in
    let end = ap (λ k. plan.rows_at + k) c.size_of_rows.ensures.value in
    let change = c.loop-span.invariant.change in
    let put = c.put_u32.ensures in
    let same_out = rows_before wide old out plan at c.requires.place end (λ k l. change.before k l) (omega (arith, c.requires.plan.inside, change.same_length)) c.requires.plan in
    let same_mid = rows_before wide old mid plan at c.requires.place end (λ k l. put.before k (omega (arith, l)) ∙ change.before k l)
    (omega (arith, c.requires.plan.inside, change.same_length, put.length)) c.requires.plan in
    let known = begun_there wide old out c.loop-span.begun begun start same_out c.begun_at-begun.ensures.begun c.loop-span.invariant.known in
    let turn = turn_there (image_rows wide old) (image_rows wide mid) same_mid (λ rs. IsKnownAt w (base_numbers (λ n. n) rs) (bit_counts rs) start begun)
    (λ rs. IsTurn w (base_numbers (λ n. n) rs) (bit_counts rs) start begun.around c.in-Some.next) (c.in-Some.ensures.turn start) known in
    turn.inside

pub put_start-requires-in-loop-span-clause-half : goal.put_start-requires-in-loop-span-clause-half
put_start-requires-in-loop-span-clause-half c = λ is_half.
    let wide = c.args.wide in
    let w = width wide in
    let plan = c.args.plan in
    let old = c.args.out.now in
    let out = c.loop-span.out in
    let mid = c.put_u32.new.out in
    let at = plan.rows_at + c.size_of_rows.result in
    let start = c.loop-span.start in
    let begun = c.begun_at-begun.result in
    let end = ap (λ k. plan.rows_at + k) c.size_of_rows.ensures.value in
    let change = c.loop-span.invariant.change in
    let put = c.put_u32.ensures in
    let same_out = rows_before wide old out plan at c.requires.place end (λ k l. change.before k l) (omega (arith, c.requires.plan.inside, change.same_length)) c.requires.plan in
    let same_mid = rows_before wide old mid plan at c.requires.place end (λ k l. put.before k (omega (arith, l)) ∙ change.before k l)
    (omega (arith, c.requires.plan.inside, change.same_length, put.length)) c.requires.plan in
    let known = begun_there wide old out c.loop-span.begun begun start same_out c.begun_at-begun.ensures.begun c.loop-span.invariant.known in
    let turn = turn_there (image_rows wide old) (image_rows wide mid) same_mid (λ rs. IsKnownAt w (base_numbers (λ n. n) rs) (bit_counts rs) start begun)
    (λ rs. IsTurn w (base_numbers (λ n. n) rs) (bit_counts rs) start begun.around c.in-Some.next) (c.in-Some.ensures.turn start) known in
    let may = c.requires.half is_half in
    let bits = ap width may.0 in
    let fs = bases wide old in
    let bs = sizes wide old in
    let all = length-firsts wide old in
    let rising = all_rise w fs bs plan.rows c.requires.linked.next (omega (arith, all, c.requires.plan.rows)) in
    half_edge fs bs c.in-Some.next (subst (λ v. AreRising v fs bs) bits rising) (λ k l. may.1 k (omega (arith, l, all, c.requires.plan.rows))) (subst (λ v. IsEdge v fs bs c.in-Some.next) bits turn.edge)

pub loop-span-preserved : goal.loop-span-preserved
loop-span-preserved c =
    let wide = c.args.wide in
    let w = width wide in
    let plan = c.args.plan in
    let old = c.args.out.now in
    let out = c.loop-span.out in
    let mid = c.put_u32.new.out in
    let at = plan.rows_at + c.size_of_rows.result in
    let start = c.loop-span.start in
    let begun = c.begun_at-begun.result in
    let end = ap (λ k. plan.rows_at + k) c.size_of_rows.ensures.value in
    let change = c.loop-span.invariant.change in
    let put = c.put_u32.ensures in
    let same_out = rows_before wide old out plan at c.requires.place end (λ k l. change.before k l) (omega (arith, c.requires.plan.inside, change.same_length)) c.requires.plan in
    let same_mid = rows_before wide old mid plan at c.requires.place end (λ k l. put.before k (omega (arith, l)) ∙ change.before k l)
    (omega (arith, c.requires.plan.inside, change.same_length, put.length)) c.requires.plan in
    let known = begun_there wide old out c.loop-span.begun begun start same_out c.begun_at-begun.ensures.begun c.loop-span.invariant.known in
    let turn = turn_there (image_rows wide old) (image_rows wide mid) same_mid (λ rs. IsKnownAt w (base_numbers (λ n. n) rs) (bit_counts rs) start begun)
    (λ rs. IsTurn w (base_numbers (λ n. n) rs) (bit_counts rs) start begun.around c.in-Some.next) (c.in-Some.ensures.turn start) known in
    let half = c.args.is_half in
    let n = c.loop-span.span in
    let fs = bases wide old in
    let bs = sizes wide old in
    let size = start_size wide half in
    let new = c.put_start-in-loop-span.new.out in
    let place = ap (λ k. at + (k + 4) * n + k) c.start_size-size.ensures.value in
    let later = c.put_start-in-loop-span.ensures.change in
    let answer = ap (u32_in mid) (sym place) ∙ put.number in
    let follows = ap (λ p. start_from wide half new (p + 4)) (sym place) ∙ c.put_start-in-loop-span.ensures.start in
    let answer_put : ChangesWithin (at + (size + 4) * n + size) (at + (size + 4) * n + size + 4) out mid = record {
      before = λ k l. put.before k (omega (arith, l, place));
      behind = λ k l. put.behind k (omega (arith, l, place));
      same_length = put.length;
    } in
    let start_put : ChangesWithin (at + (size + 4) * n + size + 4) (at + (size + 4) * n + size + 4 + size) mid new = record {
      before = λ k l. later.before k (omega (arith, l, place));
      behind = λ k l. later.behind k (omega (arith, l, place));
      same_length = later.same_length;
    } in
    let both = change_through _ _ _ _ at (at + (size + 4) * n + size + 4) old out mid change answer_put (omega arith) (omega arith) (omega arith) (omega arith) in
    let place_after = place_next (size + 4) n in
    record {
      change = change_through _ _ _ _ at (at + (size + 4) * (n + 1) + size) old mid new both start_put (omega arith) (omega arith) (omega (arith, place_after)) (omega (arith, place_after));
      start = next_start wide half fs bs at n begun.around start out mid (λ k l. answer_put.before k l) c.loop-span.invariant.put c.loop-span.invariant.start answer new
          (λ k l. start_put.before k l) c.in-Some.next follows;
      put = one_more_put wide half fs bs at n begun.around start out mid (λ k l. answer_put.before k l) c.loop-span.invariant.put c.loop-span.invariant.start answer new
          (λ k l. start_put.before k l) c.in-Some.next follows turn;
      count = c.begun_at-begun.ensures.most;
      around = c.begun_at-begun.ensures.around_within;
      known = (start, (let behind = turn.behind in omega (arith, behind)), known.count.before, known.around);
      few = (let more = edges_more w fs bs start c.in-Some.next turn.behind turn.edge in omega (arith, c.loop-span.invariant.few, more));
      half = λ is_half.
          let may = c.requires.half is_half in
          let bits = ap width may.0 in
          let all = length-firsts wide old in
          let rising = all_rise w fs bs plan.rows c.requires.linked.next (omega (arith, all, c.requires.plan.rows)) in
          half_edge fs bs c.in-Some.next (subst (λ v. AreRising v fs bs) bits rising) (λ k l. may.1 k (omega (arith, l, all, c.requires.plan.rows))) (subst (λ v. IsEdge v fs bs c.in-Some.next) bits turn.edge);
      fits = turn.inside;
    }

pub unreachable-requires : goal.unreachable-requires
unreachable-requires c =
    let wide = c.args.wide in
    let old = c.args.out.now in
    omega (arith, c.loop-span.invariant.few, most_edges (width wide) (bases wide old) (sizes wide old) c.loop-span.start, length-firsts wide old, c.requires.plan.rows, c.loop-span-test.false)
