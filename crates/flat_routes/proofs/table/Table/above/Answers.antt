use Rattle.std.proofs.Common.{arith, subst, take}
use Rattle.frozen_routes.specs.Routes.{IsLongestRow}
use Rattle.flat_routes.specs.Images.{first_in, image_rows, width}
use Rattle.flat_routes.proofs.ImageLemmas.{found_less, length-links, longest_before}
use Rattle.flat_routes.proofs.table.Table.above.Goals as goal

pub returns-then-link-at-clause-row : goal.returns-then-link-at-clause-row
returns-then-link-at-clause-row g c =
    let wide = c.WIDE.result in
    let bs = c.self.inside.image.now in
    rw (← c.self.view_is, ← c.WIDE.ensures) (λ image inside.
    let within = (image.linked c.args.at (omega (arith, inside, length-links wide bs))).within in
    absurd (omega (arith, within, c.link_at-link.ensures, c.if-link-at.true)))

pub returns-clause-row : goal.returns-clause-row
returns-clause-row g c =
    let wide = c.WIDE.result in
    let bs = c.self.inside.image.now in
    rw (← c.self.view_is, ← c.WIDE.ensures) (λ image inside.
    subst (IsLongestRow (width wide) (λ m. m) (take c.args.at (image_rows wide bs)) (first_in wide bs c.args.at))
    (found_less wide bs c.link_at-link.result c.checked_sub.result c.checked_sub.ensures)
    (longest_before wide bs c.args.at c.link_at-link.result image inside c.link_at-link.ensures))
