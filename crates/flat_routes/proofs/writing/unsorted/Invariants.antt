use Rattle.std.proofs.Common.{ℕ, ◌<◌, map as each}
use Rattle.frozen_routes.specs.Routes.{base_numbers, bit_counts}
use Rattle.flat_routes.specs.Images.{IsNext, width}
use Rattle.flat_routes.proofs.writing.unsorted.Given as goal

abbrev pub invariant-loop-at : goal.invariant-loop-at
invariant-loop-at g l = (k : ℕ) → k < l.at → IsNext (width g.R.FlatRow.WIDE) (base_numbers (λ n. n) (each g.R.FlatRow.shown l.rows)) (bit_counts (each g.R.FlatRow.shown l.rows)) k
