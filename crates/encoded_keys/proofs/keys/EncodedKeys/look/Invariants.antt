use Rattle.std.proofs.Common.{◌≡◌, ℕ, ◌+◌, ◌<◌, ◌≤◌, length, get_or}
use Rattle.encoded_keys.specs.Codes.{code_at}
use Rattle.encoded_keys.proofs.keys.EncodedKeys.look.Given as goal

abbrev pub invariant-loop-at : goal.invariant-loop-at
invariant-loop-at g l = (s : ℕ) → l.first ≤ s → s < l.at → (k : ℕ) → k < length l.self → code_at l.self k ≡ l.list
    → get_or l.self-inside.slots.items s 0 ≡ l.tag + (k + 1) → ⊥
