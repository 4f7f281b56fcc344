use Rattle.std.proofs.Common.{◌≡◌, ℕ, ◌+◌, ◌*◌, ◌<◌, ◌≤◌, Some, ap, get_or, map as each, subst, sym, arith, ◌∙◌}
use Rattle.std.proofs.lemmas.List.{length-map}
use Rattle.frozen_routes.specs.Routes.{IsLastHolder, base_numbers, bit_counts}
use Rattle.frozen_routes.proofs.RouteLemmas.Links.{firsts_up}
use Rattle.image_parts.specs.Parts.{row_count}
use Rattle.flat_routes.specs.Images.{AreLinkedTo, bases, links, row_size, sizes, width}
use Rattle.flat_routes.specs.Written.{link_from, row_from}
use Rattle.flat_routes.proofs.ImageLemmas.{last_there, none_of_none}
use Rattle.flat_routes.proofs.WriteLemmas.{change_through, firsts_hold, holds_more, plan_kept, row_room, rows_linked, shown_at, shown_stored, sizes_hold}
use Rattle.flat_routes.proofs.writing.put_rows.Goals as goal

pub loop-at-preserved : goal.loop-at-preserved
loop-at-preserved g c =
    let wide = g.R.FlatRow.WIDE in
    let shown = g.R.FlatRow.shown in
    let w = width wide in
    let given = c.args.rows.now in
    let rows = each shown given in
    let fs = base_numbers (λ n. n) rows in
    let bs = bit_counts rows in
    let plan = c.args.plan in
    let at = c.loop-at.at in
    let out = c.loop-at.out in
    let first = c.first.result in
    let link = c.follow_parents-link.result in
    let many = length-map given shown in
    let numbers = length-map rows (λ r. r.0.base) in
    let count = c.requires.count in
    let rows_at = c.requires.place in
    let few = c.loop-at.invariant.plan.inside in
    let size : c.size_of_rows.result ≡ row_size wide * at = c.size_of_rows.ensures.value ∙ ap (λ b. row_size b * at) c.WIDE-wide.ensures in
    let change = c.put_row.ensures.change in
    let kept = plan_kept wide out c.put_row.new.out plan (λ k l. change.before k (omega (arith, l, rows_at))) (omega (arith, few, change.same_length)) c.loop-at.invariant.plan in
    let counted = c.loop-at.invariant.plan.rows in
    let within : at ≤ row_count out = omega (arith, c.loop-at-test.true, count, counted) in
    let holds = c.loop-at.invariant.rows in
    let here : get_or fs at 0 ≡ first = shown_at shown (λ r. r.0.base) given at c.index-rows-at.result c.loop-at-test.true c.index-rows-at.is ∙ sym c.first.ensures.value in
    let last = subst (λ b. AreLinkedTo (width b) (bases b out) (sizes b out) (links b out) at → ((k : ℕ) → k < at → get_or (bases b out) k 0 ≤ first)
    → IsLastHolder (width b) (bases b out) (sizes b out) 0 first 0 → IsLastHolder (width b) (bases b out) (sizes b out) at first link) c.WIDE-wide.ensures c.follow_parents-link.ensures.last in
    let holder = last (rows_linked wide out rows at holds within c.requires.rising (omega (arith, many, c.loop-at-test.true)))
    (λ k l. let parents = firsts_up w fs bs k at c.requires.rising l (omega (arith, many, numbers, c.loop-at-test.true)) in omega (arith, parents, here, firsts_hold wide out rows at holds within k l))
    (none_of_none w (bases wide out) (sizes wide out) first) in
    let own = last_there w (bases wide out) (sizes wide out) fs bs at (λ k l. sym (firsts_hold wide out rows at holds within k l)) (λ k l. sym (sizes_hold wide out rows at holds within k l))
    at first link (omega arith) holder in
    record {
      plan = kept;
      rows = holds_more wide out c.put_row.new.out plan c.loop-at.invariant.plan kept at (λ j _ l. change.before j (omega (arith, l, size))) rows holds
          (shown_stored shown given at c.index-rows-at.result c.loop-at-test.true c.index-rows-at.is ∙ ap (λ r. Some r) (sym c.put_row.ensures.row)
          ∙ ap (λ n. Some (row_from wide c.put_row.new.out (plan.rows_at + n))) size)
          (subst (IsLastHolder w fs bs at (get_or fs at 0)) (sym c.put_row.ensures.link ∙ ap (λ n. link_from wide c.put_row.new.out (plan.rows_at + n)) size)
          (subst (λ a. IsLastHolder w fs bs at a link) (sym here) own));
      change = change_through 112 (112 + row_size wide * plan.rows) (plan.rows_at + c.size_of_rows.result) (plan.rows_at + c.size_of_rows.result + row_size wide) 112 (112 + row_size wide * plan.rows)
          c.args.out.now out c.put_row.new.out c.loop-at.invariant.change change (omega arith) (omega (arith, rows_at)) (omega arith)
          (omega (arith, rows_at, size, row_room wide at plan.rows (omega (arith, count, c.loop-at-test.true))));
    }
