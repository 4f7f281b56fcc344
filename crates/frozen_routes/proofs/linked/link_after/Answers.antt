use Rattle.std.proofs.Common.{◌<◌, length, ap, arith}
use Rattle.std.proofs.lemmas.List.{length-map}
use Rattle.frozen_routes.specs.Routes.{base_numbers, bit_counts}
use Rattle.frozen_routes.proofs.RouteLemmas.Growing.{all_at_most, as_many}
use Rattle.frozen_routes.proofs.linked.link_after.Goals as goal

pub follow_parents-requires-clause-before : goal.follow_parents-requires-clause-before
follow_parents-requires-clause-before g c = λ k l.
    let number = g.A.Address.number in
    let rows = c.args.rows.now in
    let few : k < length (base_numbers number rows) = omega (arith, l, length-map rows (λ r. number r.0.base)) in
    let most =
    all_at_most g.A.Address.BITS (base_numbers number rows) (bit_counts rows) (number c.args.network.now.base) c.args.network.now.bits (as_many number rows)
    (c.follows.ensures.0 c.if-not-follows.false) k few in
    omega (arith, most, ap number c.base.ensures.value)
