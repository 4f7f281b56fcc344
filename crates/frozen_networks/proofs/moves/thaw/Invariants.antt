-- The trie has the rows behind those that are left.
use Rattle.std.proofs.Common.{vec_len}
use Rattle.frozen_trie.proofs.FrozenLemmas.Thawed.{IsThawed}
use Rattle.frozen_networks.specs.Networks.{network_code}
use Rattle.frozen_networks.proofs.moves.thaw.Given as goal

abbrev pub invariant-loop-network : goal.invariant-loop-network
invariant-loop-network g l = IsThawed (network_code g.A.Address.BITS g.A.Address.number) l.initial.rest.items l.rest.items l.trie

abbrev pub decreases-loop-network : goal.decreases-loop-network
decreases-loop-network g l = vec_len l.rest
