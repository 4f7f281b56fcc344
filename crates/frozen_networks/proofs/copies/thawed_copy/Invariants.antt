-- The trie is that of the rows so far.
use Rattle.std.proofs.Common.{◌≡◌, take}
use Rattle.std.specs.FinMap as fin
use Rattle.radix_trie.specs.Building.{with_pairs}
use Rattle.frozen_networks.specs.Networks.{network_code}
use Rattle.frozen_networks.proofs.copies.thawed_copy.Given as goal

abbrev pub invariant-loop-network : goal.invariant-loop-network
invariant-loop-network g l =
    l.trie ≡ with_pairs (network_code g.A.Address.BITS g.A.Address.number) fin.empty (take l.network-index l.network-items)
