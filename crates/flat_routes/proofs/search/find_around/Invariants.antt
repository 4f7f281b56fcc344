use Rattle.std.proofs.Common.{ℕ, ◌-◌, ◌<◌, ◌≤◌}
use Rattle.frozen_routes.specs.Routes.{IsAroundAt, IsHolderAt}
use Rattle.flat_routes.specs.Images.{IsImage, bases, sizes, width}
use Rattle.flat_routes.proofs.search.find_around.Given as goal

abbrev pub invariant-up : goal.invariant-up
invariant-up l = record {
  within : l.at ≤ l.plan.rows.rows;
  holds : IsImage l.wide l.image → 0 < l.at → IsHolderAt (width l.wide) (bases l.wide l.image) (sizes l.wide l.image) l.number (l.at - 1);
  none : IsImage l.wide l.image → (k : ℕ) → l.at ≤ k → k < l.plan.rows.rows → IsAroundAt (width l.wide) (bases l.wide l.image) (sizes l.wide l.image) l.number l.bits k → ⊥;
}

abbrev pub decreases-up : goal.decreases-up
decreases-up l = l.at
