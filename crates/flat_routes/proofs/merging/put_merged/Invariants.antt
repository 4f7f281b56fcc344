use Rattle.std.proofs.Common.{◌+◌, ◌≤◌, length, map as each}
use Rattle.flat_routes.specs.Images.{row_in}
use Rattle.flat_routes.specs.Merged.{gone_at, put_place, put_row_at, row_at}
use Rattle.flat_routes.specs.Written.{ChangesWithin}
use Rattle.flat_routes.proofs.MergeLemmas.{IsSoFar}
use Rattle.flat_routes.proofs.merging.put_merged.Given as goal

abbrev pub invariant-loop-i : goal.invariant-loop-i
invariant-loop-i g l = record {
  within : l.at ≤ l.rows;
  most : l.count ≤ l.at + l.i;
  so_far : IsSoFar (row_in l.wide l.image) (row_at (each g.C.FlatRow.shown l.changes)) (gone_at (each g.C.FlatChange.removes l.changes))
      (put_row_at l.wide l.out) l.rows (length l.changes) l.at l.i l.count;
  change : ChangesWithin 112 (put_place l.wide l.count) l.fn.out l.out;
}
