use Rattle.std.proofs.Common.{◌≡◌, ℕ, ◌+◌, ◌<◌, ◌≤◌, get_or, length, take}
use Rattle.flat_texts.specs.TextImages.{IsTextPlan}
use Rattle.flat_texts.specs.TextWritten.{HoldsPairs, keys_len}
use Rattle.flat_texts.proofs.writing.put_pairs.Given as goal

abbrev pub invariant-loop-at : goal.invariant-loop-at
invariant-loop-at l = record {
  plan : IsTextPlan l.out l.plan;
  from : l.from ≡ keys_len (take l.at l.pairs);
  pairs : HoldsPairs l.out l.pairs l.at l.from;
  head : (k : ℕ) → k < 64 → get_or l.out k 0 ≡ get_or l.fn.out k 0;
  behind : (k : ℕ) → l.plan.keys_at + l.plan.keys_len ≤ k → get_or l.out k 0 ≡ get_or l.fn.out k 0;
  long : length l.out ≡ length l.fn.out;
}
