use Rattle.std.proofs.Common.{◌<◌, arith, sym, ◌∙◌}
use Rattle.frozen_routes.proofs.RouteLemmas.Single.{row_at_cut}
use Rattle.image_parts.specs.Parts.{row_count}
use Rattle.flat_routes.specs.Images.{image_rows, network, row_in, width}
use Rattle.image_parts.proofs.ByteLemmas.{listed_at}
use Rattle.flat_routes.proofs.ImageLemmas.{first_stored, length-rows, size_stored}
use Rattle.flat_routes.proofs.table.Table.get.Goals as goal
use Rattle.flat_routes.proofs.table.Table.get.Goals.{then-first_at-first-via-then-first_at-first, then-first_at-first-via-else-first_at-first+then-bits_at-bits}

pub returns-then-at-plan-clause-row : goal.returns-then-at-plan-clause-row
returns-then-at-plan-clause-row g c =
    let wide = c.WIDE-wide.result in
    let bs = c.self.inside.image.now in
    rw (← c.self.view_is, ← c.WIDE-wide.ensures, ← c.to_number-first.ensures.value) (λ image r of.
    let here = row_at_cut (width wide) (λ n. n) (image_rows wide bs) (network c.to_number-first.result c.args.bits) c.cut-at.result image.rising (c.cut-at.ensures.front image) r of in
    let inside = here.0 in
    omega (arith, inside, length-rows wide bs, c.if-at-plan.true, c.self.invariant.rows.rows))

pub returns-then-first_at-first-clause-row : goal.returns-then-first_at-first-clause-row
returns-then-first_at-first-clause-row g c =
    let wide = c.WIDE-wide.result in
    let bs = c.self.inside.image.now in
    rw (← c.self.view_is, ← c.WIDE-wide.ensures, ← c.to_number-first.ensures.value) (λ image r of.
    let here = row_at_cut (width wide) (λ n. n) (image_rows wide bs) (network c.to_number-first.result c.args.bits) c.cut-at.result image.rising (c.cut-at.ensures.front image) r of in
    elim c.then-first_at-first.branch [
      | then-first_at-first-via-then-first_at-first b ↦ b.if-first_at-first.true (c.first_at.ensures.value ∙ here.1)
      | then-first_at-first-via-else-first_at-first+then-bits_at-bits b ↦ b.if-bits_at-bits.true (b.bits_at.ensures ∙ here.2)
    ])

pub returns-clause-row : goal.returns-clause-row
returns-clause-row g c =
    let wide = c.WIDE-wide.result in
    let bs = c.self.inside.image.now in
    let at = c.cut-at.result in
    let inside : at < row_count bs = omega (arith, c.if-at-plan.false, c.self.invariant.rows.rows) in
    rw (← c.self.view_is, ← c.WIDE-wide.ensures, ← c.to_number-first.ensures.value) (λ image. record {
      at = at;
      stored = listed_at (row_in wide bs) (row_count bs) at inside;
      base = sym (first_stored wide bs at inside) ∙ sym c.first_at.ensures.value ∙ c.if-first_at-first.false;
      bits = sym (size_stored wide bs at inside) ∙ sym c.bits_at.ensures ∙ c.if-bits_at-bits.false;
    })
