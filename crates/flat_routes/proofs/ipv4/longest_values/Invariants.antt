use Rattle.std.proofs.Common.{◌≡◌, ℕ, ◌<◌, ◌≤◌, false, get_or}
use Rattle.flat_routes.specs.Images.{found_value}
use Rattle.flat_routes.proofs.ipv4.longest_values.Given as goal

abbrev pub invariant-loop-i : goal.invariant-loop-i
invariant-loop-i l = record {
  values : (k : ℕ) → k < l.i → get_or l.values k 0 ≡ found_value false l.image (get_or l.found k 0);
  rest_of_values : (k : ℕ) → l.i ≤ k → get_or l.values k 0 ≡ get_or l.fn.values k 0;
}
