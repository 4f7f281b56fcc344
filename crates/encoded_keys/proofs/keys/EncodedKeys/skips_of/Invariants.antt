use Rattle.std.proofs.Common.{◌≡◌, ℕ, ◌+◌, ◌*◌, ◌<◌, get_or, length}
use Rattle.encoded_keys.specs.Blocks.{IsSkip}
use Rattle.encoded_keys.proofs.keys.EncodedKeys.skips_of.Given as goal

abbrev pub invariant-loop-at : goal.invariant-loop-at
invariant-loop-at l = record {
  count : length l.skips.items ≡ l.at;
  skips : (k : ℕ) → k < l.at → IsSkip l.self (l.step * (16 * k)) (l.step * (16 * k + 16)) (get_or l.skips.items k 0);
}
