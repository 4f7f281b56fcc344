use Rattle.std.proofs.Common.{◌≡◌, ◌+◌, ◌*◌}
use Rattle.flat_routes.specs.Images.{AreLinkedTo, IsRowPlan, bases, image_rows, links, row_size, sizes, width}
use Rattle.flat_routes.specs.Written.{ChangesWithin}
use Rattle.flat_routes.proofs.merging.put_links.Given as goal

abbrev pub invariant-loop-at : goal.invariant-loop-at
invariant-loop-at l = record {
  plan : IsRowPlan l.wide l.out l.plan;
  rows : image_rows l.wide l.out ≡ image_rows l.wide l.fn.out;
  linked : AreLinkedTo (width l.wide) (bases l.wide l.out) (sizes l.wide l.out) (links l.wide l.out) l.at;
  change : ChangesWithin 112 (112 + row_size l.wide * l.plan.rows) l.fn.out l.out;
}
