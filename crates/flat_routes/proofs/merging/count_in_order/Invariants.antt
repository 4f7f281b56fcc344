use Rattle.std.proofs.Common.{ℕ, ◌<◌}
use Rattle.flat_routes.specs.Images.{IsNext, bases, sizes, width}
use Rattle.flat_routes.proofs.merging.count_in_order.Given as goal

abbrev pub invariant-loop-at : goal.invariant-loop-at
invariant-loop-at l = (k : ℕ) → k < l.at → IsNext (width l.wide) (bases l.wide l.image) (sizes l.wide l.image) k
