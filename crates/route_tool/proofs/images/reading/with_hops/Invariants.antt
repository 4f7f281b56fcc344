-- The routes so far are those of the rows so far.
use Rattle.std.proofs.Common.{◌≡◌, length, map as each, take, vec_len, vec_capacity}
use Rattle.std.specs.List.{AllZip}
use Rattle.flat_routes.specs.Images.{numbered_row}
use Rattle.route_tool.specs.RouteImages.{AreHopsOf, IsOpenedOf}
use Rattle.route_tool.proofs.images.reading.with_hops.Given as goal

abbrev pub invariant-loop-i : goal.invariant-loop-i
invariant-loop-i g l = record {
  room : vec_capacity l.routes ≡ length l.fn.rows;
  count : vec_len l.routes ≡ l.i;
  routes : AllZip (IsOpenedOf g.A.Address.number l.own) l.routes.items (take l.i (each (numbered_row g.A.Address.number) l.rows));
  hops : AreHopsOf l.own l.hops;
}
