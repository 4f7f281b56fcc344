use Rattle.std.proofs.Common.{◌≡◌, ℕ, ◌<◌, ◌≤◌, get_or}
use Rattle.encoded_keys.proofs.keys.index.free_slot.Given as goal

abbrev pub invariant-loop-at : goal.invariant-loop-at
invariant-loop-at l = (s : ℕ) → l.from ≤ s → s < l.at → get_or l.slots s 0 ≡ 0 → ⊥
