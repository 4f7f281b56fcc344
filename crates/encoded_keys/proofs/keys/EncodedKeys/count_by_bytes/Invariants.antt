use Rattle.std.proofs.Common.{◌≡◌, ℕ, suc, ◌+◌, ◌-◌, ◌*◌, ◌<◌, ◌≤◌, true, false, length, take}
use Rattle.encoded_keys.specs.Codes.{code_at, is_in_front}
use Rattle.encoded_keys.proofs.keys.EncodedKeys.count_by_bytes.Given as goal

abbrev pub invariant-loop-lo : goal.invariant-loop-lo
invariant-loop-lo l = record {
  order : l.lo ≤ l.hi;
  within : l.hi ≤ length l.block.heads.now;
  before : (k : ℕ) → k < l.lo → is_in_front l.sought.is_through l.sought.list.now (code_at l.self (l.block.first + k * l.block.step)) ≡ true;
  after : (k : ℕ) → l.hi ≤ k → k < length l.block.heads.now → is_in_front l.sought.is_through l.sought.list.now (code_at l.self (l.block.first + k * l.block.step)) ≡ false;
  low_inside : l.low ≤ length l.sought.list.now;
  low_same : (k : ℕ) → l.lo ≡ suc k → take l.low (code_at l.self (l.block.first + k * l.block.step)) ≡ take l.low l.sought.list.now;
  low_none : l.lo ≡ 0 → l.low ≡ l.known;
  high_same : l.hi < length l.block.heads.now → take l.high (code_at l.self (l.block.first + l.hi * l.block.step)) ≡ take l.high l.sought.list.now;
  high_none : length l.block.heads.now ≤ l.hi → l.high ≡ l.known;
  apart : l.sought.is_through ≡ false → l.hi < length l.block.heads.now → code_at l.self (l.block.first + l.hi * l.block.step) ≡ l.sought.list.now → ⊥;
}

abbrev pub decreases-loop-lo : goal.decreases-loop-lo
decreases-loop-lo l = l.hi - l.lo
