use Rattle.std.proofs.Common.{◌≡◌, ℕ, ◌+◌, ◌*◌, ◌<◌}
use Rattle.image_parts.specs.Parts.{u32_in}
use Rattle.image_parts.proofs.parts.payload.Given as goal

abbrev pub invariant-loop-i : goal.invariant-loop-i
invariant-loop-i l = (k : ℕ) → k < l.i → u32_in l.image (16 + 24 * k) ≡ 3 → ⊥
