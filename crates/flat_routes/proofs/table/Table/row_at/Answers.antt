use Rattle.std.proofs.Common.{◌<◌, Some, ap, arith, sym, ◌∙◌}
use Rattle.image_parts.specs.Parts.{row_count}
use Rattle.flat_routes.specs.Images.{network}
use Rattle.flat_routes.proofs.ImageLemmas.{link_stored, no_row, row_is}
use Rattle.flat_routes.proofs.table.Table.row_at.Goals as goal

pub returns-then-at-plan-clause-row : goal.returns-then-at-plan-clause-row
returns-then-at-plan-clause-row g c =
    rw (← c.self.view_is) (no_row g.A.Family.WIDE c.self.inside.image.now c.args.at (omega (arith, c.if-at-plan.true, c.self.invariant.rows.rows)))

pub returns-clause-row : goal.returns-clause-row
returns-clause-row g c =
    let wide = c.WIDE-wide.result in
    let bs = c.self.inside.image.now in
    let inside : c.args.at < row_count bs = omega (arith, c.if-at-plan.false, c.self.invariant.rows.rows) in
    rw (← c.self.view_is, ← c.WIDE-wide.ensures)
    (row_is wide bs c.args.at c.first_at.result c.bits_at.result c.value_at.result inside c.first_at.ensures.value c.bits_at.ensures c.value_at.ensures.value
    ∙ ap (λ n. Some (network n c.bits_at.result, c.value_at.result)) (sym c.from_number.ensures))

pub returns-clause-link : goal.returns-clause-link
returns-clause-link g c =
    rw (← c.self.view_is, ← c.WIDE-wide.ensures)
    (c.link_at.ensures ∙ link_stored c.WIDE-wide.result c.self.inside.image.now c.args.at (omega (arith, c.if-at-plan.false, c.self.invariant.rows.rows)))
