use Rattle.std.proofs.Common.{◌+◌, ◌≤◌, ◌↔◌, length, map as each, subst, sym, arith, ◌∙◌}
use Rattle.std.specs.Result.{IfErr, IsOk}
use Rattle.std.proofs.lemmas.Result.{IfOk-weaker}
use Rattle.image_parts.specs.Parts.{row_count}
use Rattle.flat_routes.specs.Merged.{CanMerge, IsMergeFault, merged_size}
use Rattle.flat_routes.proofs.ImageLemmas.{length-rows}
use Rattle.flat_routes.proofs.MergeLemmas.{merged_grows, no_rows}
use Rattle.flat_routes.proofs.merging.merge.Goals as goal

pub merge_rows-requires-clause-plan : goal.merge_rows-requires-clause-plan
merge_rows-requires-clause-plan g c = no_rows c.WIDE-wide.result

pub returns-in_default-clause-most : goal.returns-in_default-clause-most
returns-in_default-clause-most g c =
    let wide = c.WIDE-wide.result in
    let n = length c.args.changes.now in
    let p = length c.args.payload.now in
    let up = merged_grows wide (0 + n) (row_count c.args.image.now + n) p (omega arith) in
    rw (← c.WIDE-wide.ensures) (IfOk-weaker c.merge_rows.result (λ len. len ≤ merged_size wide (0 + n) p) (λ len. len ≤ merged_size wide (row_count c.args.image.now + n) p)
    (λ len le. omega (arith, le, up)) c.merge_rows.ensures.most)

pub returns-clause-ok : goal.returns-clause-ok
returns-clause-ok g c =
    let wide = c.WIDE-wide.result in
    let bs = c.args.image.now in
    rw (← c.WIDE-wide.ensures) (λ image.
    subst (λ n. IsOk c.merge_rows-2.result ↔ CanMerge wide n (each g.C.FlatRow.shown c.args.changes.now) (length c.args.payload.now) (length c.args.out.now))
    (c.in-Some.ensures.rows ∙ sym (length-rows wide bs)) c.merge_rows-2.ensures.ok)

pub returns-clause-fault : goal.returns-clause-fault
returns-clause-fault g c =
    let wide = c.WIDE-wide.result in
    let bs = c.args.image.now in
    rw (← c.WIDE-wide.ensures) (λ image.
    subst (λ n. IfErr c.merge_rows-2.result (IsMergeFault wide n (each g.C.FlatRow.shown c.args.changes.now) (length c.args.payload.now) (length c.args.out.now)))
    (c.in-Some.ensures.rows ∙ sym (length-rows wide bs)) c.merge_rows-2.ensures.fault)

pub returns-clause-rows : goal.returns-clause-rows
returns-clause-rows g c = rw (← c.WIDE-wide.ensures) c.merge_rows-2.ensures.rows
