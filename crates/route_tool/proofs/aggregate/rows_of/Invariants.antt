-- The rows so far are those of the routes so far.
use Rattle.std.proofs.Common.{◌≡◌, length, take, vec_len, vec_capacity}
use Rattle.std.specs.List.{AllZip}
use Rattle.route_tool.specs.Numbers.{IsRowOf}
use Rattle.route_tool.proofs.aggregate.rows_of.Given as goal

abbrev pub invariant-loop-route : goal.invariant-loop-route
invariant-loop-route g l = record {
  room : vec_capacity l.rows ≡ length l.fn.routes;
  count : vec_len l.rows ≡ l.route-index;
  rows : AllZip (IsRowOf g.A.Address.number l.hops) l.rows.items (take l.route-index l.routes);
}
