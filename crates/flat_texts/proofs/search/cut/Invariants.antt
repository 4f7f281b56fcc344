use Rattle.std.proofs.Common.{◌≡◌, ℕ, ◌-◌, ◌<◌, ◌≤◌, true, false}
use Rattle.nibble_map.specs.Nibbles.{nibbles}
use Rattle.encoded_keys.specs.Codes.{code_at, is_in_front}
use Rattle.flat_texts.specs.TextImages.{IsTextImage, key_codes}
use Rattle.flat_texts.proofs.search.cut.Given as goal

abbrev pub invariant-loop-lo : goal.invariant-loop-lo
invariant-loop-lo l = record {
  order : l.lo ≤ l.hi;
  within : l.hi ≤ l.plan.pairs;
  before : IsTextImage l.image → (k : ℕ) → k < l.lo → is_in_front l.is_through (nibbles l.key) (code_at (key_codes l.image) k) ≡ true;
  after : IsTextImage l.image → (k : ℕ) → l.hi ≤ k → k < l.plan.pairs → is_in_front l.is_through (nibbles l.key) (code_at (key_codes l.image) k) ≡ false;
  apart : IsTextImage l.image → l.is_through ≡ false → l.hi < l.plan.pairs → code_at (key_codes l.image) l.hi ≡ nibbles l.key → ⊥;
}

abbrev pub decreases-loop-lo : goal.decreases-loop-lo
decreases-loop-lo l = l.hi - l.lo
