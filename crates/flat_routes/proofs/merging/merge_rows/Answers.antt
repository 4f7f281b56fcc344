use Rattle.std.proofs.Common.{ℕ, ◌+◌, ◌*◌, ◌^◌, ◌<◌, ◌≤◌, List, length, map as each, refl, subst, sym, arith, ◌∙◌}
use Rattle.std.proofs.lemmas.List.{length-map}
use Rattle.std.proofs.lemmas.Nat.{mul-le}
use Rattle.radix_keys.specs.Networks.{Net}
use Rattle.frozen_routes.specs.Routes.{AreRowsInOrder}
use Rattle.flat_routes.specs.declared.head.RowPlan.{RowPlan}
use Rattle.flat_routes.specs.Images.{image_rows, row_in, row_size, width}
use Rattle.flat_routes.specs.Merged.{AreMerged, AreRowsAfter, gone_at, put_row_at, row_at}
use Rattle.flat_routes.proofs.MergeLemmas.{head_rows, merged_next, rows_after, size_fits}
use Rattle.flat_routes.proofs.WriteLemmas.{head_kept, no_disorder, plan_written}
use Rattle.flat_routes.proofs.merging.merge_rows.Goals as goal

pub returns-in-Some-unsorted-clause-ok : goal.returns-in-Some-unsorted-clause-ok
returns-in-Some-unsorted-clause-ok g c = (
  λ e. absurd (cc e),
  λ can. absurd (no_disorder (width g.C.FlatRow.WIDE) (each g.C.FlatRow.shown c.args.changes.now) c.in-Some-unsorted.at
      (subst (λ b. AreRowsInOrder (width b) (λ n. n) (each g.C.FlatRow.shown c.args.changes.now)) (sym c.requires.family) can.rising) c.in-Some-unsorted.ensures),
)

pub put_links-requires-clause-next : goal.put_links-requires-clause-next
put_links-requires-clause-next g c =
    let wide = c.args.wide in
    let count = c.put_merged-rows.result in
    let changes = c.args.changes.now in
    let most = c.put_merged-rows.ensures.most in
    let within = c.count_in_order-old.ensures.within in
    let up = mul-le (row_size wide) count (row_size wide) (c.args.plan.rows + length changes) (omega arith) (omega (arith, most, within)) in
    let room : 112 + row_size wide * count ≤ length c.put_row_head.new.out = omega (arith, up, c.in-Some.ensures.value, c.if-out-most.false, c.put_merged-rows.ensures.change.same_length, c.put_row_head.ensures.change.same_length) in
    let few : count < 2 ^ 32 = omega (arith, most, within, c.in-Some.ensures.value.0) in
    let plan : RowPlan = record { rows = count; rows_at = 112 } in
    let of = plan_written wide c.put_row_head.new.out plan few room c.put_row_head.ensures.head in
    merged_next wide c.args.image.now c.put_merged-rows.new.out c.put_row_head.new.out count
    (head_rows wide c.put_merged-rows.new.out c.put_row_head.new.out plan refl of (λ k l. c.put_row_head.ensures.change.behind k l)) of.rows
    c.count_in_order-old.result (length changes) (each g.C.FlatRow.shown changes) (gone_at (each g.C.FlatChange.removes changes)) (omega (arith, within, c.requires.plan.rows))
    (sym (length-map changes g.C.FlatRow.shown)) c.count_in_order-old.ensures.next
    (subst (λ b. AreRowsInOrder (width b) (λ n. n) (each g.C.FlatRow.shown changes)) c.requires.family c.in_default-unsorted.ensures) c.put_merged-rows.ensures.merged

pub put_index-requires-clause-head : goal.put_index-requires-clause-head
put_index-requires-clause-head g c =
    head_kept c.args.wide c.put_row_head.new.out c.put_links.new.out (record { rows = c.put_merged-rows.result; rows_at = 112 })
    (λ k l. c.put_links.ensures.change.before k (omega (arith, l))) c.put_row_head.ensures.head

pub put_index-requires-clause-room : goal.put_index-requires-clause-room
put_index-requires-clause-room g c =
    let fits = size_fits c.args.wide c.put_merged-rows.result (c.args.plan.rows + length c.args.changes.now) (length c.args.payload.now) (omega (arith, c.put_merged-rows.ensures.most, c.count_in_order-old.ensures.within)) in
    omega (arith, fits, c.in-Some.ensures.value, c.if-out-most.false, c.put_merged-rows.ensures.change.same_length, c.put_row_head.ensures.change.same_length, c.put_links.ensures.change.same_length)

pub returns-clause-most : goal.returns-clause-most
returns-clause-most g c =
    let fits = size_fits c.args.wide c.put_merged-rows.result (c.args.plan.rows + length c.args.changes.now) (length c.args.payload.now) (omega (arith, c.put_merged-rows.ensures.most, c.count_in_order-old.ensures.within)) in
    omega (arith, fits, c.put_index.ensures.most)

pub returns-clause-rows : goal.returns-clause-rows
returns-clause-rows g c = λ image.
    let wide = c.args.wide in
    let old = c.args.image.now in
    let count = c.put_merged-rows.result in
    let changes = c.args.changes.now in
    let shown = g.C.FlatRow.shown in
    let removes = g.C.FlatChange.removes in
    let most = c.put_merged-rows.ensures.most in
    let within = c.count_in_order-old.ensures.within in
    let up = mul-le (row_size wide) count (row_size wide) (c.args.plan.rows + length changes) (omega arith) (omega (arith, most, within)) in
    let room : 112 + row_size wide * count ≤ length c.put_row_head.new.out = omega (arith, up, c.in-Some.ensures.value, c.if-out-most.false, c.put_merged-rows.ensures.change.same_length, c.put_row_head.ensures.change.same_length) in
    let few : count < 2 ^ 32 = omega (arith, most, within, c.in-Some.ensures.value.0) in
    let plan : RowPlan = record { rows = count; rows_at = 112 } in
    let of = plan_written wide c.put_row_head.new.out plan few room c.put_row_head.ensures.head in
    let merged = subst (λ n. AreMerged (row_in wide old) (row_at (each shown changes)) (gone_at (each removes changes)) (put_row_at wide c.put_merged-rows.new.out) n (length changes) count)
    (c.count_in_order-old.ensures.all image ∙ c.requires.plan.rows) c.put_merged-rows.ensures.merged in
    subst (λ (rs : List (Net ℕ × ℕ)). AreRowsAfter shown removes changes (image_rows wide old) rs) (sym (c.put_index.ensures.written.rows ∙ c.put_links.ensures.rows))
    (rows_after shown removes changes wide old c.put_merged-rows.new.out c.put_row_head.new.out count merged
    (head_rows wide c.put_merged-rows.new.out c.put_row_head.new.out plan refl of (λ k l. c.put_row_head.ensures.change.behind k l)) of.rows)
