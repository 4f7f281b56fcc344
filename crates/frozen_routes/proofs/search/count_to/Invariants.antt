use Rattle.std.proofs.Common.{ℕ, ◌-◌, ◌<◌, ◌≤◌, length, get_or}
use Rattle.frozen_routes.specs.Routes.{base_numbers}
use Rattle.frozen_routes.proofs.search.count_to.Given as goal

abbrev pub invariant-loop-lo : goal.invariant-loop-lo
invariant-loop-lo g l = record {
  least : l.fn.lo ≤ l.lo;
  order : l.lo ≤ l.hi;
  within : l.hi ≤ length l.rows;
  below : (k : ℕ) → k < l.lo → get_or (base_numbers g.A.Address.number l.rows) k 0 ≤ l.number;
  above : (k : ℕ) → l.hi ≤ k → k < length l.rows → l.number < get_or (base_numbers g.A.Address.number l.rows) k 0;
}

abbrev pub decreases-loop-lo : goal.decreases-loop-lo
decreases-loop-lo g l = l.hi - l.lo
