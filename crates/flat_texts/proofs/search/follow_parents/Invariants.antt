use Rattle.std.proofs.Common.{ℕ, ◌-◌, ◌<◌, ◌≤◌}
use Rattle.nibble_map.specs.Lists.{IsBefore, IsPrefix}
use Rattle.nibble_map.specs.Nibbles.{nibbles}
use Rattle.flat_texts.specs.TextImages.{AreRightPairs, key_code}
use Rattle.flat_texts.proofs.search.follow_parents.Given as goal

abbrev pub invariant-loop-at : goal.invariant-loop-at
invariant-loop-at l = record {
  within : l.at ≤ l.from;
  chain : AreRightPairs l.image l.from → 0 < l.at → IsPrefix (key_code l.image (l.at - 1)) (key_code l.image (l.from - 1));
  none : AreRightPairs l.image l.from → ((k : ℕ) → k < l.from → IsBefore (key_code l.image k) (nibbles l.key))
      → (k : ℕ) → l.at ≤ k → k < l.from → IsPrefix (key_code l.image k) (nibbles l.key) → ⊥;
}

abbrev pub decreases-loop-at : goal.decreases-loop-at
decreases-loop-at l = l.at
