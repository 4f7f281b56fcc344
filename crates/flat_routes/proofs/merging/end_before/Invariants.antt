use Rattle.std.proofs.Common.{ℕ, ◌<◌, ◌≤◌, get_or}
use Rattle.frozen_routes.specs.Routes.{IsEarlier}
use Rattle.flat_routes.specs.Images.{bases, sizes}
use Rattle.flat_routes.proofs.merging.end_before.Given as goal

abbrev pub invariant-loop-at : goal.invariant-loop-at
invariant-loop-at l = (k : ℕ) → l.from ≤ k → k < l.at → IsEarlier (get_or (bases l.wide l.image) k 0) (get_or (sizes l.wide l.image) k 0) l.first l.bits
