use Rattle.std.proofs.Common.{ℕ, ◌-◌, ◌*◌, ◌^◌, ◌<◌, ◌≤◌, length, get_or}
use Rattle.frozen_routes.specs.Routes.{base_numbers}
use Rattle.frozen_routes.proofs.directory.count_below.Given as goal

abbrev pub invariant-loop-count : goal.invariant-loop-count
invariant-loop-count g l = record {
  within : l.count ≤ length l.rows;
  below : (k : ℕ) → k < l.count → get_or (base_numbers g.A.Address.number l.rows) k 0 < l.first * 2 ^ l.rest;
}

abbrev pub decreases-loop-count : goal.decreases-loop-count
decreases-loop-count g l = length l.rows - l.count
