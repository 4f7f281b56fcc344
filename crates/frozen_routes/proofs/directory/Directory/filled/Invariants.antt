use Rattle.std.proofs.Common.{◌≡◌, ℕ, ◌*◌, ◌^◌, ◌<◌, ◌≤◌, length, get_or}
use Rattle.std.specs.Vec.{vec_len, vec_capacity}
use Rattle.frozen_routes.specs.Routes.{AreTopCells, base_numbers, bit_counts}
use Rattle.frozen_routes.proofs.directory.Directory.filled.Given as goal

abbrev pub invariant-loop-first : goal.invariant-loop-first
invariant-loop-first g l = record {
  many : length l.cells.items ≡ l.first;
  len : vec_len l.cells ≡ l.first;
  room : l.room ≤ vec_capacity l.cells;
  cells : AreTopCells l.rest g.A.Address.BITS (base_numbers g.A.Address.number l.rows) (bit_counts l.rows) l.cells.items;
  within : l.count ≤ length l.rows;
  below : (k : ℕ) → k < l.count → get_or (base_numbers g.A.Address.number l.rows) k 0 < l.first * 2 ^ l.rest;
}
