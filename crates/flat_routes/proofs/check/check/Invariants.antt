use Rattle.std.proofs.Common.{ℕ, ◌-◌, ◌<◌, ◌≤◌, get_or}
use Rattle.frozen_routes.specs.Routes.{IsLastHolder}
use Rattle.flat_routes.specs.Faults.{AreRowsRight, IsCellRight, IsSpanRightIn}
use Rattle.flat_routes.specs.Images.{bases, sizes, start_in, width}
use Rattle.flat_routes.proofs.check.check.Given as goal

abbrev pub invariant-loop-at : goal.invariant-loop-at
invariant-loop-at l = AreRowsRight l.wide l.image l.at

abbrev pub invariant-loop-span : goal.invariant-loop-span
invariant-loop-span l = record {
  right : (i : ℕ) → i < l.span → IsSpanRightIn l.wide l.image i;
  count : l.before.count ≤ l.plan.rows.rows;
  begun : (k : ℕ) → k < l.before.count → get_or (bases l.wide l.image) k 0 ≤ start_in l.wide l.image (l.span - 1);
  last : IsLastHolder (width l.wide) (bases l.wide l.image) (sizes l.wide l.image) l.before.count (start_in l.wide l.image (l.span - 1)) l.before.around;
}

abbrev pub invariant-loop-cell : goal.invariant-loop-cell
invariant-loop-cell l = (t : ℕ) → t < l.cell → IsCellRight l.wide l.image t
