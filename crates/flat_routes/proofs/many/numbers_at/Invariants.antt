use Rattle.std.proofs.Common.{◌≡◌, ℕ, ◌+◌, ◌^◌, ◌<◌, length, get_or, map as each}
use Rattle.flat_routes.specs.Images.{width}
use Rattle.flat_routes.proofs.many.numbers_at.Given as goal

abbrev pub invariant-loop-i : goal.invariant-loop-i
invariant-loop-i g l = record {
  long : length l.numbers ≡ 8;
  read : (j : ℕ) → j < l.i → get_or l.numbers j 0 ≡ get_or (each g.N.FlatAddress.number l.addresses) (l.at + j) 0;
  fit : (j : ℕ) → j < l.i → get_or l.numbers j 0 < 2 ^ width g.N.FlatAddress.WIDE;
}
