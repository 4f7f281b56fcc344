use Rattle.std.proofs.Common.{ℕ, ◌<◌, ◌≤◌, get_or}
use Rattle.radix_keys.specs.Networks.{AgreeIn}
use Rattle.frozen_routes.specs.Routes.{base_numbers, bit_counts}
use Rattle.frozen_routes.proofs.search.follow_parents.Given as goal

abbrev pub invariant-loop-at : goal.invariant-loop-at
invariant-loop-at g l = record {
  within : l.at ≤ l.from;
  none : (k : ℕ) → l.at ≤ k → k < l.from → AgreeIn g.A.Address.BITS (get_or (bit_counts l.rows) k 0) (get_or (base_numbers g.A.Address.number l.rows) k 0) l.number → ⊥;
}

abbrev pub decreases-loop-at : goal.decreases-loop-at
decreases-loop-at g l = l.at
