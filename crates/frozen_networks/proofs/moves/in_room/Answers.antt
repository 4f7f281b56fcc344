-- There is room for each row, and rows that rise by their lists are in order.
use Rattle.std.proofs.Common.{◌≡◌, arith, refl, subst}
use Rattle.nibble_map.specs.Lists.{Each}
use Rattle.sorted_tables.specs.declared.errors.SortedWhy.{SortedWhy}
use Rattle.sorted_tables.specs.declared.errors.SortedWhy.TheVariants as why
use Rattle.frozen_networks.specs.Networks.{IsNetwork}
use Rattle.frozen_networks.proofs.RowLemmas.{none_out_of_order}
use Rattle.frozen_networks.proofs.moves.in_room.Goals as goal

pub unreachable-requires : goal.unreachable-requires
unreachable-requires g c = by c.in-Err.field-0.why refl
  where
    by : (w : SortedWhy) → c.in-Err.field-0.why ≡ w → ⊥
    by why.Memory is = c.in-Err.ensures.memory is
    by why.Full is = omega (arith, c.in-Err.ensures.full is, c.requires.room)
    by (why.OutOfOrder i) is =
        let w = g.A.Address.BITS in
        let number = g.A.Address.number in
        let networks = subst (Each (λ r. IsNetwork w number r.0)) c.deref.ensures.value c.each_is_network.ensures in
        none_out_of_order w number c.args.rows.items i ((c.networks_rise_as_their_bits.ensures.rising w number c.args.rows.items).1 (networks, c.requires.rising)) (c.in-Err.ensures.unsorted i is)
