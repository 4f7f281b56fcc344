use Rattle.std.proofs.Common.{ℕ, ◌-◌, ◌<◌, ◌≤◌, length}
use Rattle.frozen_routes.specs.Routes.{IsAroundAt, IsHolderAt, base_numbers, bit_counts}
use Rattle.frozen_routes.proofs.search.last_around.Given as goal

abbrev pub invariant-loop-at : goal.invariant-loop-at
invariant-loop-at g l = record {
  within : l.at ≤ length l.rows;
  holds : 0 < l.at → IsHolderAt g.A.Address.BITS (base_numbers g.A.Address.number l.rows) (bit_counts l.rows) (g.A.Address.number l.network.base) (l.at - 1);
  none : (k : ℕ) → l.at ≤ k → k < length l.rows → IsAroundAt g.A.Address.BITS (base_numbers g.A.Address.number l.rows) (bit_counts l.rows) (g.A.Address.number l.network.base) l.bits k → ⊥;
}

abbrev pub decreases-loop-at : goal.decreases-loop-at
decreases-loop-at g l = l.at
