use Rattle.std.proofs.Common.{ℕ, ◌-◌, ◌<◌, ◌≤◌, length, get_or}
use Rattle.encoded_keys.proofs.heads.step_span.Given as goal

abbrev pub invariant-loop-hi : goal.invariant-loop-hi
invariant-loop-hi l = record {
  order : l.lo ≤ l.hi;
  within : l.hi ≤ length l.numbers;
  below : (k : ℕ) → k < l.lo → get_or l.numbers k 0 < l.bound;
  above : (k : ℕ) → l.hi ≤ k → k < length l.numbers → l.bound < get_or l.numbers k 0;
}

abbrev pub decreases-loop-hi : goal.decreases-loop-hi
decreases-loop-hi l = l.hi - l.lo
