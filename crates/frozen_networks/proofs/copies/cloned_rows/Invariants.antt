-- The rows so far, and those that the walk still has.
use Rattle.std.proofs.Common.{◌≡◌, ◌++◌, [], length}
use Rattle.nibble_map.specs.Lists.{Each}
use Rattle.radix_trie.specs.Views.{pairs_below}
use Rattle.frozen_networks.specs.Networks.{IsNetwork}
use Rattle.frozen_networks.proofs.copies.cloned_rows.Given as goal

abbrev pub invariant-loop-walk : goal.invariant-loop-walk
invariant-loop-walk g l = record {
  order : pairs_below l.fn.trie [] ≡ l.rows.items ++ l.walk;
  networks : Each (λ r. IsNetwork g.A.Address.BITS g.A.Address.number r.0) l.rows.items;
}

abbrev pub decreases-loop-walk : goal.decreases-loop-walk
decreases-loop-walk g l = length l.walk
