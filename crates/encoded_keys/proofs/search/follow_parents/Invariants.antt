use Rattle.std.proofs.Common.{ℕ, ◌-◌, ◌<◌, ◌≤◌}
use Rattle.nibble_map.specs.Lists.{IsPrefix}
use Rattle.encoded_keys.specs.Codes.{code_at}
use Rattle.encoded_keys.proofs.search.follow_parents.Given as goal

abbrev pub invariant-loop-at : goal.invariant-loop-at
invariant-loop-at l = record {
  within : l.at ≤ l.from;
  chain : 0 < l.at → IsPrefix (code_at l.codes (l.at - 1)) (code_at l.codes (l.from - 1));
  none : (k : ℕ) → l.at ≤ k → k < l.from → IsPrefix (code_at l.codes k) l.list → ⊥;
}

abbrev pub decreases-loop-at : goal.decreases-loop-at
decreases-loop-at l = l.at
