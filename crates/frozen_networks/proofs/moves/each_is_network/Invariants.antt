-- The rows so far are of networks.
use Rattle.std.proofs.Common.{take}
use Rattle.nibble_map.specs.Lists.{Each}
use Rattle.frozen_networks.specs.Networks.{IsNetwork}
use Rattle.frozen_networks.proofs.moves.each_is_network.Given as goal

abbrev pub invariant-loop-row : goal.invariant-loop-row
invariant-loop-row g l = Each (λ r. IsNetwork g.A.Address.BITS g.A.Address.number r.0) (take l.row-index l.rows)
