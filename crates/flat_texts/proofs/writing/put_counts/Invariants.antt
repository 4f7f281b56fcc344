use Rattle.std.proofs.Common.{◌≡◌, ℕ, ◌+◌, ◌*◌, ◌^◌, ◌<◌, ◌≤◌, get_or}
use Rattle.flat_texts.specs.TextImages.{stored_count, stored_head}
use Rattle.flat_texts.specs.TextWritten.{IsHeadCount, PairsStay}
use Rattle.flat_texts.proofs.writing.put_counts.Given as goal

abbrev pub invariant-loop-at : goal.invariant-loop-at
invariant-loop-at l = record {
  counts : (t : ℕ) → t < l.at → IsHeadCount l.fn.out t (stored_count l.out t);
  stay : PairsStay l.plan l.plan.pairs l.plan.keys_len l.fn.out l.out;
  behind : (k : ℕ) → l.plan.keys_at + l.plan.keys_len ≤ k → get_or l.out k 0 ≡ get_or l.fn.out k 0;
  within : l.count ≤ l.plan.pairs;
  before : (k : ℕ) → k < l.count → stored_head l.fn.out k < l.at * 2 ^ 48;
}
