-- Nibbles as bytes again.
use Rattle.std.proofs.Common.{◌≡◌, ℕ, suc, ◌+◌, ◌-◌, ◌*◌, ◌/◌, ◌%◌, ◌<◌, Bool, true, false, List, [], ◌∷◌, length, take, get_or, refl, sym, ap, ◌∙◌, arith}
use Rattle.nibble_map.specs.Nibbles.{nibbles}
use Rattle.radix_keys.specs.Packing.{IsPadded, unpacked}
use Rattle.encoded_keys.specs.Laid.{packed_bytes}

-- the bytes of a byte string's nibbles are the byte string
pub packed_bytes-nibbles : (bs : List ℕ) → packed_bytes (nibbles bs) ≡ bs
packed_bytes-nibbles [] = refl
packed_bytes-nibbles (b ∷ bs) =
    let whole : b / 16 * 16 + b % 16 ≡ b = omega arith in
    ap (λ x. x ∷ packed_bytes (nibbles bs)) whole ∙ ap (λ t. b ∷ t) (packed_bytes-nibbles bs)

-- the same of an odd count of nibbles, the last of which leaves a half unused
half_unused : (bs : List ℕ) → 0 < length bs → get_or bs (length bs - 1) 0 % 16 ≡ 0
    → packed_bytes (take (length (nibbles bs) - 1) (nibbles bs)) ≡ bs
half_unused [] l e = absurd (omega (arith, l))
half_unused (b ∷ []) l e = let whole : b / 16 * 16 ≡ b = omega (arith, e) in ap (λ x. x ∷ []) whole
half_unused (a ∷ b ∷ bs) l e =
    let whole : a / 16 * 16 + a % 16 ≡ a = omega arith in
    let count : length (nibbles (a ∷ b ∷ bs)) - 1 ≡ suc (suc (length (nibbles (b ∷ bs)) - 1)) = omega arith in
    let last : length (a ∷ b ∷ bs) - 1 ≡ suc (length (b ∷ bs) - 1) = omega arith in
    ap (λ k. packed_bytes (take k (nibbles (a ∷ b ∷ bs)))) count
    ∙ ap (λ x. x ∷ packed_bytes (take (length (nibbles (b ∷ bs)) - 1) (nibbles (b ∷ bs)))) whole
    ∙ ap (λ t. a ∷ t) (half_unused (b ∷ bs) (omega arith) (ap (λ k. get_or (a ∷ b ∷ bs) k 0 % 16) (sym last) ∙ e))

-- the bytes of a packed list are those that it is packed in
pub packed_bytes-unpacked : (bs : List ℕ) (odd : Bool) → IsPadded bs odd → packed_bytes (unpacked bs odd) ≡ bs
packed_bytes-unpacked bs false p = packed_bytes-nibbles bs
packed_bytes-unpacked bs true p = half_unused bs p.0 p.1
