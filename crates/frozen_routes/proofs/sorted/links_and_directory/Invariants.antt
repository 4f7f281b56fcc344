use Rattle.std.proofs.Common.{◌≡◌, ◌≤◌, length, take}
use Rattle.std.specs.Vec.{vec_len, vec_capacity}
use Rattle.frozen_routes.specs.Routes.{AreLinked, base_numbers, bit_counts}
use Rattle.frozen_routes.proofs.sorted.links_and_directory.Given as goal

abbrev pub invariant-loop-i : goal.invariant-loop-i
invariant-loop-i g l = record {
  linked : AreLinked g.A.Address.BITS (base_numbers g.A.Address.number (take l.i l.rows)) (bit_counts (take l.i l.rows)) l.parents.items l.room-inside.directory.rest l.room-inside.directory.cells.items l.room-inside.directory.uppers.items;
  len : vec_len l.parents ≡ l.i;
  room : length l.rows ≤ vec_capacity l.parents;
}
