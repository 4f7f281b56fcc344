use Rattle.std.proofs.Common.{◌≡◌, ◌≤◌, length}
use Rattle.std.specs.Vec.{vec_len, vec_capacity}
use Rattle.frozen_routes.specs.Routes.{AreUppers, base_numbers}
use Rattle.frozen_routes.proofs.directory.with_uppers.Given as goal

abbrev pub invariant-loop-at : goal.invariant-loop-at
invariant-loop-at g l = record {
  many : length l.uppers.items ≡ l.at;
  len : vec_len l.uppers ≡ l.at;
  room : l.count ≤ vec_capacity l.uppers;
  uppers : AreUppers (base_numbers g.A.Address.number l.rows) l.uppers.items;
}
