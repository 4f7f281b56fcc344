use Rattle.std.proofs.Common.{ℕ, ◌-◌, ◌*◌, ◌^◌, ◌<◌, ◌≤◌}
use Rattle.flat_texts.specs.TextImages.{stored_head}
use Rattle.flat_texts.proofs.writing.next_count.Given as goal

abbrev pub invariant-loop-count : goal.invariant-loop-count
invariant-loop-count l = record {
  within : l.count ≤ l.plan.pairs;
  before : (k : ℕ) → k < l.count → stored_head l.image k < l.at * 2 ^ 48;
}

abbrev pub decreases-loop-count : goal.decreases-loop-count
decreases-loop-count l = l.plan.pairs - l.count
