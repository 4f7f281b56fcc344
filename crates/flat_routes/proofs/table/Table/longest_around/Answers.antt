use Rattle.std.proofs.Common.{subst}
use Rattle.frozen_routes.specs.Routes.{IsLastAround, IsLongestAround}
use Rattle.flat_routes.specs.Images.{bases, image_rows, network, sizes, width}
use Rattle.flat_routes.proofs.ImageLemmas.{found_less, longest_around}
use Rattle.flat_routes.proofs.table.Table.longest_around.Goals as goal

pub returns-clause-row : goal.returns-clause-row
returns-clause-row g c =
    let wide = c.WIDE.result in
    let bs = c.self.inside.image.now in
    let net = network c.to_number.result c.args.bits in
    rw (← c.self.view_is, ← c.WIDE.ensures, ← c.to_number.ensures.value) (λ image.
    subst (IsLongestAround (width wide) (λ m. m) (image_rows wide bs) net)
    (found_less wide bs c.find_around.result c.checked_sub.result c.checked_sub.ensures)
    (longest_around wide bs net c.find_around.result image
    (subst (λ n. IsLastAround (width wide) (bases wide bs) (sizes wide bs) n c.to_number.result c.args.bits c.find_around.result) c.self.invariant.rows.rows (c.find_around.ensures.last image))))
