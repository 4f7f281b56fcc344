-- A row more of the trie for each row that is taken from the end.
use Rattle.std.proofs.Common.{append-nil}
use Rattle.frozen_trie.proofs.FrozenLemmas.Thawed.{none_thawed}
use Rattle.frozen_networks.specs.Networks.{network_code}
use Rattle.frozen_networks.proofs.RowLemmas.{one_row_thawed}
use Rattle.frozen_networks.proofs.moves.thaw.Goals as goal

pub loop-network-init : goal.loop-network-init
loop-network-init g c = none_thawed (network_code g.A.Address.BITS g.A.Address.number) _ _ c.new-trie.ensures (append-nil _)

pub loop-network-preserved-in_default-insert : goal.loop-network-preserved-in_default-insert
loop-network-preserved-in_default-insert g c =
    one_row_thawed g.A.Address.BITS g.A.Address.number c.args.routes c.into_rows-rest.result.items c.loop-network.rest.items c.pop.new.self.items _
    c.loop-network.trie c.insert.new.self c.into_rows-rest.ensures.rising c.into_rows-rest.ensures.rows c.in-Some.ensures.items c.loop-network.invariant
    c.in_default-insert.ensures.stored

pub loop-network-preserved-in_default-insert-2 : goal.loop-network-preserved-in_default-insert-2
loop-network-preserved-in_default-insert-2 g c =
    one_row_thawed g.A.Address.BITS g.A.Address.number c.args.routes c.into_rows-rest.result.items c.loop-network.rest.items c.pop.new.self.items _
    c.loop-network.trie c.insert.new.self c.into_rows-rest.ensures.rising c.into_rows-rest.ensures.rows c.in-Some.ensures.items c.loop-network.invariant
    c.in_default-insert.ensures.stored
