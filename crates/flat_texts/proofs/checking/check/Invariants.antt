use Rattle.std.proofs.Common.{ℕ, ◌<◌}
use Rattle.encoded_keys.specs.Heads.{IsTop}
use Rattle.flat_texts.specs.TextImages.{AreRightPairs, stored_count, stored_heads}
use Rattle.flat_texts.proofs.checking.check.Given as goal

abbrev pub invariant-loop-at : goal.invariant-loop-at
invariant-loop-at l = AreRightPairs l.image l.at

abbrev pub invariant-loop-at-2 : goal.invariant-loop-at-2
invariant-loop-at-2 l = (t : ℕ) → t < l.at → IsTop (stored_heads l.image) t (stored_count l.image t)
