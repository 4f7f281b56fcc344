use Rattle.std.proofs.Common.{ℕ, ◌-◌, ◌<◌, ◌≤◌, get_or}
use Rattle.flat_routes.specs.Images.{bases}
use Rattle.flat_routes.proofs.turns.count_up_to.Given as goal

abbrev pub invariant-loop-count : goal.invariant-loop-count
invariant-loop-count l = record {
  least : l.fn.from ≤ l.count;
  within : l.count ≤ l.plan.rows;
  before : (k : ℕ) → k < l.count → get_or (bases l.wide l.image) k 0 ≤ l.number;
}

abbrev pub decreases-loop-count : goal.decreases-loop-count
decreases-loop-count l = l.plan.rows - l.count
