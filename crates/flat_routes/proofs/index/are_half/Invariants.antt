use Rattle.std.proofs.Common.{ℕ, ◌<◌, ◌≤◌, get_or}
use Rattle.flat_routes.specs.Images.{sizes}
use Rattle.flat_routes.proofs.index.are_half.Given as goal

abbrev pub invariant-loop-at : goal.invariant-loop-at
invariant-loop-at l = (k : ℕ) → k < l.at → get_or (sizes l.wide l.image) k 0 ≤ 64
