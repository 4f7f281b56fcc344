use Rattle.std.proofs.Common.{◌+◌, ◌-◌, ◌*◌, ◌^◌, ◌<◌, ◌≤◌}
use Rattle.image_parts.specs.Parts.{u32_in}
use Rattle.flat_routes.specs.Images.{AreCells, begin_of}
use Rattle.flat_routes.specs.Written.{ChangesWithin}
use Rattle.flat_routes.proofs.index.put_cells.Given as goal

abbrev pub invariant-loop-at : goal.invariant-loop-at
invariant-loop-at l = record {
  change : ChangesWithin l.cells.at (l.cells.at + 4 * l.cells.count) l.fn.out l.out;
  within : l.span < l.spans.count;
  before : begin_of l.wide l.spans l.fn.out l.span ≤ l.cells.low + (l.at - 1) * 2 ^ l.cells.rest;
  cells : AreCells (begin_of l.wide l.spans l.fn.out) l.spans.count l.cells.low l.cells.rest (λ t. u32_in l.out (l.cells.at + 4 * t)) l.at;
}
