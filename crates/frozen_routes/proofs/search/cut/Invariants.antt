use Rattle.std.proofs.Common.{ℕ, ◌-◌, ◌<◌, ◌≤◌, length, get_or}
use Rattle.frozen_routes.specs.Routes.{IsInFront, base_numbers, bit_counts}
use Rattle.frozen_routes.proofs.search.cut.Given as goal

abbrev pub invariant-loop-lo : goal.invariant-loop-lo
invariant-loop-lo g l = record {
  order : l.lo ≤ l.hi;
  within : l.hi ≤ length l.rows;
  before : (k : ℕ) → k < l.lo → IsInFront g.A.Address.BITS l.is_through l.bits l.quotient (get_or (base_numbers g.A.Address.number l.rows) k 0) (get_or (bit_counts l.rows) k 0);
  after : (k : ℕ) → l.hi ≤ k → k < length l.rows → IsInFront g.A.Address.BITS l.is_through l.bits l.quotient (get_or (base_numbers g.A.Address.number l.rows) k 0) (get_or (bit_counts l.rows) k 0) → ⊥;
}

abbrev pub decreases-loop-lo : goal.decreases-loop-lo
decreases-loop-lo g l = l.hi - l.lo
