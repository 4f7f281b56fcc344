use Rattle.std.proofs.Common.{◌∙◌, ap, refl, subst, sym}
use Rattle.std.specs.FinMap as map
use Rattle.frozen_routes.specs.Routes.{AreRowsInOrder}
use Rattle.frozen_networks.specs.Networks.{network_map}
use Rattle.route_tool.proofs.HeldLemmas.{held_by_rows, no_pair, of_rows}
use Rattle.route_tool.proofs.table.Routes.of_rows.Goals as goal

pub invariant_of-result : goal.invariant_of-result
invariant_of-result g c =
    let w = g.A.Address.BITS in
    let number = g.A.Address.number in
    held_by_rows w number c.stored_keys_are_equal.ensures.inserted (c.stored_keys_are_equal.ensures.empty map.empty refl) c.new.result c.of_rows.result.rows (no_pair c.new.result c.new.ensures)
    (subst (AreRowsInOrder w number) (sym c.of_rows.ensures) c.rows.ensures.rising)

pub returns : goal.returns
returns g c =
    let w = g.A.Address.BITS in
    let number = g.A.Address.number in
    of_rows w number c.new.result c.of_rows.result.rows (no_pair c.new.result c.new.ensures) ∙ ap (network_map w number) c.of_rows.ensures
