use Rattle.std.proofs.Common.{◌≡◌, ◌≤◌, map as each}
use Rattle.std.specs.Vec.{vec_capacity, vec_len}
use Rattle.image_parts.specs.Parts.{listed}
use Rattle.flat_routes.specs.Images.{row_in}
use Rattle.flat_routes.proofs.tables.rows_of.Given as goal

abbrev pub invariant-loop-at : goal.invariant-loop-at
invariant-loop-at g l = record {
  rows : each g.R.FlatRow.shown l.rows.items ≡ listed (row_in g.R.FlatRow.WIDE l.image) l.at;
  len : vec_len l.rows ≡ l.at;
  room : l.plan.rows ≤ vec_capacity l.rows;
}
