use Rattle.std.proofs.Common.{subst}
use Rattle.frozen_routes.specs.Routes.{IsLongestRow}
use Rattle.flat_routes.specs.Images.{image_rows, width}
use Rattle.flat_routes.proofs.ImageLemmas.{found_less}
use Rattle.flat_routes.proofs.table.Table.longest_match.Goals as goal

pub returns-clause-row : goal.returns-clause-row
returns-clause-row g c =
    let wide = c.WIDE.result in
    let bs = c.self.inside.image.now in
    rw (← c.self.view_is, ← c.WIDE.ensures, ← c.to_number.ensures.value) (λ image.
    subst (IsLongestRow (width wide) (λ m. m) (image_rows wide bs) c.to_number.result)
    (found_less wide bs c.find.result c.checked_sub.result c.checked_sub.ensures) (c.find.ensures.row image))
