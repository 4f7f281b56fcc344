use Rattle.std.proofs.Common.{◌<◌, length, get_or, sym, ap, subst, ◌∙◌, arith, refl}
use Rattle.std.proofs.lemmas.List.{get_or_read, length-map}
use Rattle.std.proofs.lemmas.Option.{slice_get_read}
use Rattle.frozen_routes.specs.Routes.{IsLastHolder, row_of_refs, base_numbers, bit_counts}
use Rattle.frozen_routes.proofs.RouteLemmas.Above.{one_up}
use Rattle.frozen_routes.proofs.RouteLemmas.Rows.{stored_at}
use Rattle.frozen_routes.proofs.frozen.FrozenRoutes.step_up.Goals as goal

pub returns-clause-walk : goal.returns-clause-walk
returns-clause-walk g c =
    let w = g.A.Address.BITS in
    let number = g.A.Address.number in
    let rows = c.self.inside.rows.items in
    let parents = c.self.inside.parents.items in
    let at = c.args.at in
    let r = c.index.result.now in
    let row = row_of_refs c.entry_at.result in
    let within : at < length rows = omega (arith, c.requires, ap length c.self.view_is) in
    let linked : at < length parents = omega (arith, within, c.self.invariant.linked, length-map rows (λ s. number s.0.base)) in
    let link = subst (IsLastHolder w (base_numbers number rows) (bit_counts rows) at (get_or (base_numbers number rows) at 0)) (sym (get_or_read parents at r linked c.index.ensures 0)) (c.self.invariant.links at linked) in
    let is = c.entry_at.ensures ∙ ap (λ rs. get_or rs at row) c.deref.ensures.value in
    let first = (stored_at (λ s. number s.0.base) rows at row (slice_get_read rows (length rows) at row refl within is)).1 in
    rw (← c.self.view_is) (one_up w number rows c.self.invariant.rising at r row within is first link)

pub returns-clause-within : goal.returns-clause-within
returns-clause-within g c =
    let number = g.A.Address.number in
    let rows = c.self.inside.rows.items in
    let parents = c.self.inside.parents.items in
    let at = c.args.at in
    let linked : at < length parents = omega (arith, c.requires, ap length c.self.view_is, c.self.invariant.linked, length-map rows (λ s. number s.0.base)) in
    let link = (c.self.invariant.links at linked).within in
    omega (arith, link, get_or_read parents at c.index.result.now linked c.index.ensures 0)
