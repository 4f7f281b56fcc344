-- Which lists of nibbles begin with which, and of which bytes.
use Rattle.std.proofs.Common.{◌≡◌, ◌↔◌, ℕ, ◌/◌, ◌%◌, List, [], ◌∷◌, ◌++◌, length, refl, arith, ap, ◌∙◌}
use Rattle.nibble_map.specs.Lists.{IsPrefix}
use Rattle.nibble_map.specs.Nibbles.{nibbles}
use Rattle.radix_keys.proofs.NibbleLemmas.Bytes.{nibbles-append}

-- where the nibbles begin with another list's, the bytes do
bytes_begin : (a b : List ℕ) → IsPrefix (nibbles a) (nibbles b) → IsPrefix a b
bytes_begin [] b h = (b, refl)
bytes_begin (x ∷ a) [] h = absurd (omega (arith, ap length h.1))
bytes_begin (x ∷ a) (y ∷ b) h =
    let e : (y / 16) ∷ ((y % 16) ∷ nibbles b) ≡ (x / 16) ∷ ((x % 16) ∷ (nibbles a ++ h.0)) = h.1 in
    let high : y / 16 ≡ x / 16 = cc in
    let low : y % 16 ≡ x % 16 = cc in
    let after : nibbles b ≡ nibbles a ++ h.0 = cc in
    let same : y ≡ x = omega arith in
    let begun = bytes_begin a b (h.0, after) in
    let tail = begun.1 in
    (begun.0, λ i. same i ∷ tail i)

-- nibbles begin with another list's exactly where the bytes do
pub nibbles_prefix : (a b : List ℕ) → IsPrefix (nibbles a) (nibbles b) ↔ IsPrefix a b
nibbles_prefix a b = (bytes_begin a b, λ h. (nibbles h.0, ap nibbles h.1 ∙ nibbles-append a h.0))
