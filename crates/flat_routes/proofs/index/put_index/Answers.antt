use Rattle.std.proofs.Common.{ℕ, ◌+◌, ◌*◌, ◌≤◌, List, length, get_or, take, ap, refl, sym, subst, arith, ◌∙◌}
use Rattle.std.proofs.lemmas.List.{drop-take, get_or-take, length-take-le}
use Rattle.std.proofs.lemmas.Nat.{mul-le}
use Rattle.std.proofs.Math.Seq.{take-length}
use Rattle.radix_keys.specs.Networks.{Net}
use Rattle.frozen_routes.specs.Routes.{base_numbers}
use Rattle.flat_routes.specs.Images.{answer_of, bases, sizes, begin_of, start_size, width}
use Rattle.flat_routes.specs.Written.{ChangesWithin, most_span}
use Rattle.flat_routes.proofs.IndexLemmas.{image_of_all, rows_before, span_most, spans_start}
use Rattle.flat_routes.proofs.WriteLemmas.{plan_kept}
use Rattle.flat_routes.proofs.index.put_index.Goals as goal

pub cells_for-cells-requires-clause-plan : goal.cells_for-cells-requires-clause-plan
cells_for-cells-requires-clause-plan c =
    let change = c.put_spans-spans.ensures.change in
    plan_kept c.args.wide c.args.out.now c.put_spans-spans.new.out c.args.plan (λ k l. change.before k (omega (arith, l, c.put_spans-spans.ensures.at, c.requires.place)))
    (omega (arith, c.requires.plan.inside, change.same_length)) c.requires.plan

pub put_cells-requires-clause-starts : goal.put_cells-requires-clause-starts
put_cells-requires-clause-starts c =
    let wide = c.args.wide in
    let spans = c.put_spans-spans.result in
    let out = c.put_spans-spans.new.out in
    spans_start (width wide) (bases wide c.args.out.now) (sizes wide c.args.out.now) (begin_of wide spans out) (answer_of wide spans out) spans.count c.put_spans-spans.ensures.spans

pub returns-clause-written : goal.returns-clause-written
returns-clause-written c =
    let wide = c.args.wide in
    let plan = c.args.plan in
    let old = c.args.out.now in
    let spans = c.put_spans-spans.result in
    let cells = c.cells_for-cells.result in
    let payload = c.args.payload.now in
    let b1 = c.put_spans-spans.new.out in
    let b2 = c.put_cells.new.out in
    let b3 = c.put_parts.new.out in
    let b4 = c.put_bytes.new.out in
    let put = c.put_spans-spans.ensures in
    let laid = c.cells_for-cells.ensures in
    let whole = c.put_bytes.ensures in
    let spans_put = subst (λ h. ChangesWithin spans.at (spans.at + (start_size wide h + 4) * spans.count) old b1) (sym put.half) put.change in
    let same_rows = rows_before wide old b1 plan spans.at c.requires.place put.at (λ k l. put.change.before k l) (omega (arith, c.requires.plan.inside, put.change.same_length)) c.requires.plan in
    let low = laid.low ∙ ap (λ (rs : List (Net ℕ × ℕ)). get_or (base_numbers (λ n. n) rs) 0 0) same_rows in
    let end = cells.at + 4 * cells.count + length payload in
    let parts = mul-le (start_size wide spans.is_half + 4) spans.count (most_span wide) (2 * plan.rows + 1) (span_most wide spans.is_half) put.most in
    let room : end ≤ length b4 = omega (
      arith,
      parts,
      laid.at,
      laid.count,
      put.at,
      c.requires.place,
      c.requires.room,
      put.change.same_length,
      c.put_cells.ensures.change.same_length,
      c.put_parts.ensures.change.same_length,
      whole.length,
    ) in
    image_of_all wide plan spans cells payload old b1 b2 b3 b4 end c.requires.place c.requires.plan c.requires.head c.requires.linked put.at (λ h. (c.are_half-is_half.ensures (sym put.half ∙ h)).0)
    put.spans spans_put laid.at laid.rest low c.put_cells.ensures.cells c.put_cells.ensures.change c.put_parts.ensures.listed c.put_parts.ensures.change refl room (λ k l. whole.before k l) whole.bytes

pub returns-clause-front : goal.returns-clause-front
returns-clause-front c =
    let wide = c.args.wide in
    let plan = c.args.plan in
    let old = c.args.out.now in
    let spans = c.put_spans-spans.result in
    let cells = c.cells_for-cells.result in
    let payload = c.args.payload.now in
    let b1 = c.put_spans-spans.new.out in
    let b2 = c.put_cells.new.out in
    let b3 = c.put_parts.new.out in
    let b4 = c.put_bytes.new.out in
    let put = c.put_spans-spans.ensures in
    let laid = c.cells_for-cells.ensures in
    let whole = c.put_bytes.ensures in
    let spans_put = subst (λ h. ChangesWithin spans.at (spans.at + (start_size wide h + 4) * spans.count) old b1) (sym put.half) put.change in
    let same_rows = rows_before wide old b1 plan spans.at c.requires.place put.at (λ k l. put.change.before k l) (omega (arith, c.requires.plan.inside, put.change.same_length)) c.requires.plan in
    let low = laid.low ∙ ap (λ (rs : List (Net ℕ × ℕ)). get_or (base_numbers (λ n. n) rs) 0 0) same_rows in
    let end = cells.at + 4 * cells.count + length payload in
    let parts = mul-le (start_size wide spans.is_half + 4) spans.count (most_span wide) (2 * plan.rows + 1) (span_most wide spans.is_half) put.most in
    let room : end ≤ length b4 = omega (
      arith,
      parts,
      laid.at,
      laid.count,
      put.at,
      c.requires.place,
      c.requires.room,
      put.change.same_length,
      c.put_cells.ensures.change.same_length,
      c.put_parts.ensures.change.same_length,
      whole.length,
    ) in
    let at = cells.at + 4 * cells.count in
    let long = length-take-le end b4 room in
    image_of_all wide plan spans cells payload old b1 b2 b3 (take end b4) end c.requires.place c.requires.plan c.requires.head c.requires.linked put.at (λ h. (c.are_half-is_half.ensures (sym put.half ∙ h)).0)
    put.spans spans_put laid.at laid.rest low c.put_cells.ensures.cells c.put_cells.ensures.change c.put_parts.ensures.listed c.put_parts.ensures.change refl (omega (arith, long)) (λ k l. get_or-take end b4 k 0 (omega (arith, l)) ∙ whole.before k l) (ap (take (length payload)) (drop-take at (length payload) b4 ∙ whole.bytes) ∙ take-length payload)
