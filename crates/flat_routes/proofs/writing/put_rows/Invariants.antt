use Rattle.std.proofs.Common.{◌+◌, ◌*◌, map as each}
use Rattle.flat_routes.specs.Images.{IsRowPlan, row_size}
use Rattle.flat_routes.specs.Written.{ChangesWithin, HoldsRows}
use Rattle.flat_routes.proofs.writing.put_rows.Given as goal

abbrev pub invariant-loop-at : goal.invariant-loop-at
invariant-loop-at g l = record {
  plan : IsRowPlan g.R.FlatRow.WIDE l.out l.plan;
  rows : HoldsRows g.R.FlatRow.WIDE l.out (each g.R.FlatRow.shown l.rows) l.at;
  change : ChangesWithin 112 (112 + row_size g.R.FlatRow.WIDE * l.plan.rows) l.fn.out l.out;
}
