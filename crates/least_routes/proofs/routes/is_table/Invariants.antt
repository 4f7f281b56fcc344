-- The routes so far go to networks of the width, each before the next.
use Rattle.std.proofs.Common.{ℕ, ◌+◌, ◌<◌, get_or}
use Rattle.least_routes.specs.declared.routes.Route.{Route}
use Rattle.least_routes.specs.Routes.{IsOfWidth, IsSortedBefore}
use Rattle.least_routes.proofs.routes.is_table.Given as goal

abbrev pub invariant-loop-i : goal.invariant-loop-i
invariant-loop-i l = record {
  networks : (k : ℕ) (d : Route) → k < l.i → IsOfWidth l.width (get_or l.routes k d);
  order : (k : ℕ) (d : Route) → k + 1 < l.i → IsSortedBefore (get_or l.routes k d) (get_or l.routes (k + 1) d);
}
