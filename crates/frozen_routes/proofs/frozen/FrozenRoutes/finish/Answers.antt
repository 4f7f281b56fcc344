use Rattle.std.proofs.Common.{subst}
use Rattle.frozen_routes.specs.Routes.{AreTopCells, AreUppers, base_numbers, bit_counts}
use Rattle.frozen_routes.proofs.RouteLemmas.Growing.{topped}
use Rattle.frozen_routes.proofs.frozen.FrozenRoutes.finish.Goals as goal

pub invariant_of-self-2 : goal.invariant_of-self-2
invariant_of-self-2 g c =
    let w = g.A.Address.BITS in
    let number = g.A.Address.number in
    let had = c.self.inside in
    let directory = c.filled.result in
    topped w number had.rows.items c.shrink_to_fit.new.self.items had.parents.items c.shrink_to_fit-2.new.self.items had.directory.rest had.directory.cells.items had.directory.uppers.items
    directory.rest directory.cells.items directory.uppers.items c.self.invariant c.shrink_to_fit.ensures.items c.shrink_to_fit-2.ensures.items
    (subst (λ rs. AreTopCells directory.rest w (base_numbers number rs) (bit_counts rs) directory.cells.items) c.deref.ensures.value c.filled.ensures.cells)
    (subst (λ rs. AreUppers (base_numbers number rs) directory.uppers.items) c.deref.ensures.value c.filled.ensures.uppers)

pub filled-requires-clause-rising : goal.filled-requires-clause-rising
filled-requires-clause-rising g c = rw (c.deref.ensures.value, c.shrink_to_fit.ensures.items) c.self.invariant.rising

pub filled-requires-clause-links : goal.filled-requires-clause-links
filled-requires-clause-links g c = rw (c.deref.ensures.value, c.shrink_to_fit.ensures.items, c.deref-2.ensures.value, c.shrink_to_fit-2.ensures.items) c.self.invariant.links
