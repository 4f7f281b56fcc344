-- The highest bit of a list's first nibble, turned over.
use Rattle.std.proofs.Common.{◌≡◌, ℕ, List, [], ◌∷◌, length, refl, ap, ◌∙◌}
use Rattle.std.specs.Int.Bits.{bit_xor, xor_assoc, xor_self, xor_zero_r}
use Rattle.nibble_map.specs.Turned.{turned}

-- a list turned over twice is itself again
pub turned-turned : (e : List ℕ) → turned (turned e) ≡ e
turned-turned [] = refl
turned-turned (a ∷ e) = ap (λ b. b ∷ e) (xor_assoc a 8 8 ∙ ap (bit_xor a) (xor_self 8) ∙ xor_zero_r a)

-- a list turned over is as long as it was
pub length-turned : (e : List ℕ) → length (turned e) ≡ length e
length-turned [] = refl
length-turned (a ∷ e) = refl
