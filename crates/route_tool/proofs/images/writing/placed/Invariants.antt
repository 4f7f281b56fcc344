-- The rows so far are those of the routes so far.
use Rattle.std.proofs.Common.{◌+◌, ◌≤◌, length}
use Rattle.route_tool.specs.RouteImages.{AreLaidAt, hops_size}
use Rattle.route_tool.proofs.RouteImageLemmas.{AreBegunRows}
use Rattle.route_tool.proofs.images.writing.placed.Given as goal

abbrev pub invariant-loop-rows : goal.invariant-loop-rows
invariant-loop-rows g l = record {
  laid : AreLaidAt l.places l.own.items;
  size : length l.own.items + hops_size l.rest ≤ hops_size l.fn.rest;
  begun : AreBegunRows l.own.items l.fn.rest l.rest l.rows.items;
}

abbrev pub decreases-loop-rows : goal.decreases-loop-rows
decreases-loop-rows g l = length l.rest
