use Rattle.std.proofs.Common.{◌-◌, ◌<◌, ◌≤◌}
use Rattle.flat_routes.specs.Images.{begin_of}
use Rattle.flat_routes.proofs.index.span_from.Given as goal

abbrev pub invariant-loop-span : goal.invariant-loop-span
invariant-loop-span l = record {
  within : l.span < l.spans.count;
  before : begin_of l.wide l.spans l.image l.span ≤ l.number;
}

abbrev pub decreases-loop-span : goal.decreases-loop-span
decreases-loop-span l = l.spans.count - l.span
