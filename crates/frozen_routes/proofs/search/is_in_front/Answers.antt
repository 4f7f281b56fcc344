use Rattle.frozen_routes.proofs.RouteLemmas.Parts.{front_apart, front_same, front_through, own_is}
use Rattle.frozen_routes.proofs.search.is_in_front.Goals as goal

pub returns-then-is_through : goal.returns-then-is_through
returns-then-is_through g c =
    let w = g.A.Address.BITS in
    let own = own_is w c.args.bits _ _ _ _ _ c.saturating_sub.ensures c.BITS.ensures c.first_at.ensures c.without_last-own.ensures in
    front_through w c.args.is_through c.args.bits c.args.quotient _ _ c.without_last-own.result own c.if-own-quotient.false c.if-is_through.true

pub returns-else-is_through : goal.returns-else-is_through
returns-else-is_through g c =
    let w = g.A.Address.BITS in
    let own = own_is w c.args.bits _ _ _ _ _ c.saturating_sub.ensures c.BITS.ensures c.first_at.ensures c.without_last-own.ensures in
    front_same w c.args.is_through c.args.bits c.args.quotient _ _ c.without_last-own.result c.bits_at.result own c.if-own-quotient.false c.if-is_through.false c.bits_at.ensures

pub returns-then-own-quotient : goal.returns-then-own-quotient
returns-then-own-quotient g c =
    let w = g.A.Address.BITS in
    let own = own_is w c.args.bits _ _ _ _ _ c.saturating_sub.ensures c.BITS.ensures c.first_at.ensures c.without_last-own.ensures in
    front_apart w c.args.is_through c.args.bits c.args.quotient _ _ c.without_last-own.result own c.if-own-quotient.true
