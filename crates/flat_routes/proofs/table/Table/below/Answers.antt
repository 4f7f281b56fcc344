use Rattle.std.proofs.Common.{◌≡◌, ◌+◌, ◌-◌, ◌/◌, ◌^◌, true, take, drop, ap, subst, arith, ◌∙◌}
use Rattle.frozen_routes.specs.Routes.{AreInFront}
use Rattle.frozen_routes.proofs.RouteLemmas.Parts.{cuts_in_order, part_within}
use Rattle.flat_routes.specs.Images.{bases, image_rows, network, sizes, width}
use Rattle.flat_routes.proofs.table.Table.below.Goals as goal

pub returns-clause-behind : goal.returns-clause-behind
returns-clause-behind g c =
    let wide = c.WIDE-wide.result in
    let bs = c.self.inside.image.now in
    let from = c.cut-from.result in
    let to = c.cut-to.result in
    let w = width wide in
    rw (← c.self.view_is, ← c.WIDE-wide.ensures, ← c.to_number-first.ensures.value) (λ image.
    let order = cuts_in_order w c.args.bits (c.to_number-first.result / 2 ^ (w - c.args.bits)) (bases wide bs) (sizes wide bs) from to (c.cut-from.ensures.front image) (c.cut-to.ensures.front image) in
    let is : to ≡ from + c.saturating_sub.result = omega (arith, order, c.saturating_sub.ensures) in
    subst (AreInFront w true c.args.bits (c.to_number-first.result / 2 ^ (w - c.args.bits)) (bases wide bs) (sizes wide bs)) is (c.cut-to.ensures.front image))

pub returns-clause-rows : goal.returns-clause-rows
returns-clause-rows g c =
    let wide = c.WIDE-wide.result in
    let rows = image_rows wide c.self.inside.image.now in
    let from = c.cut-from.result in
    rw (← c.self.view_is, ← c.WIDE-wide.ensures, ← c.to_number-first.ensures.value) (λ image.
    ap (λ n. take n (drop from rows)) c.saturating_sub.ensures
    ∙ part_within (width wide) (λ n. n) (network c.to_number-first.result c.args.bits) rows from c.cut-to.result (c.cut-from.ensures.front image) (c.cut-to.ensures.front image))
