use Rattle.std.proofs.Common.{length, subst}
use Rattle.std.proofs.lemmas.List.{length-map}
use Rattle.frozen_routes.specs.Routes.{IsLastHolder, base_numbers, bit_counts}
use Rattle.frozen_routes.proofs.RouteLemmas.Links.{among_all}
use Rattle.frozen_routes.proofs.search.last_holder.Goals as goal

pub returns : goal.returns
returns g c =
    let w = g.A.Address.BITS in
    let rows = c.args.rows.now in
    let fs = base_numbers g.A.Address.number rows in
    let a = c.to_number-number.result in
    let last = among_all w fs (bit_counts rows) a c.count_to-from.result c.follow_parents.result c.requires.rising c.count_to-from.ensures.count c.follow_parents.ensures in
    subst (λ n. IsLastHolder w fs (bit_counts rows) n (g.A.Address.number c.args.address) c.follow_parents.result) (length-map rows (λ r. g.A.Address.number r.0.base))
    (subst (λ n. IsLastHolder w fs (bit_counts rows) (length fs) n c.follow_parents.result) c.to_number-number.ensures.value last)

pub count_to-from-requires-clause-rising : goal.count_to-from-requires-clause-rising
count_to-from-requires-clause-rising g c = c.requires.rising

pub count_to-from-requires-clause-uppers : goal.count_to-from-requires-clause-uppers
count_to-from-requires-clause-uppers g c = rw (c.deref.ensures.value) c.requires.uppers

pub follow_parents-requires-clause-rising : goal.follow_parents-requires-clause-rising
follow_parents-requires-clause-rising g c = c.requires.rising

pub follow_parents-requires-clause-links : goal.follow_parents-requires-clause-links
follow_parents-requires-clause-links g c = c.requires.links
