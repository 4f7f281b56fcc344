-- The nibbles of bytes: their count, and each of them.
use Rattle.std.proofs.Common.{◌≡◌, ℕ, zero, suc, ◌+◌, ◌*◌, ◌/◌, ◌%◌, ◌<◌, List, [], ◌∷◌, ◌++◌, length, get_or, take, drop, refl, arith, ap, append_assoc, ◌∙◌}
use Rattle.nibble_map.specs.Nibbles.{nibbles}
pub use Rattle.radix_keys.specs.Widths.{length-nibbles}

-- the nibbles of joined bytes are those of both
pub nibbles-append : (a b : List ℕ) → nibbles (a ++ b) ≡ nibbles a ++ nibbles b
nibbles-append [] b = refl
nibbles-append (x ∷ a) b = ap (λ t. (x / 16) ∷ ((x % 16) ∷ t)) (nibbles-append a b)

-- the nibble at an even place is the high half of a byte, and at an odd place the low half
pub get_or-nibbles_even : (bs : List ℕ) (k i : ℕ) → i ≡ 2 * k → get_or (nibbles bs) i 0 ≡ get_or bs k 0 / 16
get_or-nibbles_even [] k i e = refl
get_or-nibbles_even (b ∷ bs) zero zero e = refl
get_or-nibbles_even (b ∷ bs) zero (suc i) e = absurd (omega arith)
get_or-nibbles_even (b ∷ bs) (suc k) zero e = absurd (omega arith)
get_or-nibbles_even (b ∷ bs) (suc k) (suc zero) e = absurd (omega arith)
get_or-nibbles_even (b ∷ bs) (suc k) (suc (suc i)) e = get_or-nibbles_even bs k i (omega arith)

-- the nibble at an odd place is the low half of a byte
pub get_or-nibbles_odd : (bs : List ℕ) (k i : ℕ) → i ≡ 2 * k + 1 → get_or (nibbles bs) i 0 ≡ get_or bs k 0 % 16
get_or-nibbles_odd [] k i e = refl
get_or-nibbles_odd (b ∷ bs) k zero e = absurd (omega arith)
get_or-nibbles_odd (b ∷ bs) zero (suc zero) e = refl
get_or-nibbles_odd (b ∷ bs) zero (suc (suc i)) e = absurd (omega arith)
get_or-nibbles_odd (b ∷ bs) (suc k) (suc zero) e = absurd (omega arith)
get_or-nibbles_odd (b ∷ bs) (suc k) (suc (suc i)) e = get_or-nibbles_odd bs k i (omega arith)

-- cut at an even place, between two bytes
-- the nibbles before an even place are those of the bytes before it
pub take-nibbles_even : (bs : List ℕ) (k i : ℕ) → i ≡ 2 * k → take i (nibbles bs) ≡ nibbles (take k bs)
take-nibbles_even [] zero zero e = refl
take-nibbles_even [] zero (suc i) e = absurd (omega arith)
take-nibbles_even [] (suc k) zero e = absurd (omega arith)
take-nibbles_even [] (suc k) (suc i) e = refl
take-nibbles_even (b ∷ bs) zero zero e = refl
take-nibbles_even (b ∷ bs) zero (suc i) e = absurd (omega arith)
take-nibbles_even (b ∷ bs) (suc k) zero e = absurd (omega arith)
take-nibbles_even (b ∷ bs) (suc k) (suc zero) e = absurd (omega arith)
take-nibbles_even (b ∷ bs) (suc k) (suc (suc i)) e =
    ap (λ t. (b / 16) ∷ ((b % 16) ∷ t)) (take-nibbles_even bs k i (omega arith))

-- the nibbles from an even place on are those of the bytes from it on
pub drop-nibbles_even : (bs : List ℕ) (k i : ℕ) → i ≡ 2 * k → drop i (nibbles bs) ≡ nibbles (drop k bs)
drop-nibbles_even [] zero zero e = refl
drop-nibbles_even [] zero (suc i) e = absurd (omega arith)
drop-nibbles_even [] (suc k) zero e = absurd (omega arith)
drop-nibbles_even [] (suc k) (suc i) e = refl
drop-nibbles_even (b ∷ bs) zero zero e = refl
drop-nibbles_even (b ∷ bs) zero (suc i) e = absurd (omega arith)
drop-nibbles_even (b ∷ bs) (suc k) zero e = absurd (omega arith)
drop-nibbles_even (b ∷ bs) (suc k) (suc zero) e = absurd (omega arith)
drop-nibbles_even (b ∷ bs) (suc k) (suc (suc i)) e = drop-nibbles_even bs k i (omega arith)

-- cut at an odd place, inside the byte at k
-- the nibbles before an odd place are those of the bytes before it, and a high half
pub take-nibbles_odd : (bs : List ℕ) (k i : ℕ) → i ≡ 2 * k + 1 → k < length bs
    → take i (nibbles bs) ≡ nibbles (take k bs) ++ (get_or bs k 0 / 16) ∷ []
take-nibbles_odd [] k i e lt = absurd (omega arith)
take-nibbles_odd (b ∷ bs) k zero e lt = absurd (omega arith)
take-nibbles_odd (b ∷ bs) zero (suc zero) e lt = refl
take-nibbles_odd (b ∷ bs) zero (suc (suc i)) e lt = absurd (omega arith)
take-nibbles_odd (b ∷ bs) (suc k) (suc zero) e lt = absurd (omega arith)
take-nibbles_odd (b ∷ bs) (suc k) (suc (suc i)) e lt =
    ap (λ t. (b / 16) ∷ ((b % 16) ∷ t)) (take-nibbles_odd bs k i (omega arith) (omega arith))

-- the nibbles from an odd place on are a low half, and those of the bytes after it
pub drop-nibbles_odd : (bs : List ℕ) (k i : ℕ) → i ≡ 2 * k + 1 → k < length bs
    → drop i (nibbles bs) ≡ (get_or bs k 0 % 16) ∷ nibbles (drop (k + 1) bs)
drop-nibbles_odd bs k i e lt =
    let n : suc k ≡ k + 1 = omega arith in
    go bs k i e lt ∙ ap (λ j. (get_or bs k 0 % 16) ∷ nibbles (drop j bs)) n
  where
    go : (bs : List ℕ) (k i : ℕ) → i ≡ 2 * k + 1 → k < length bs → drop i (nibbles bs) ≡ (get_or bs k 0 % 16) ∷ nibbles (drop (suc k) bs)
    go [] k i e lt = absurd (omega arith)
    go (b ∷ bs) k zero e lt = absurd (omega arith)
    go (b ∷ bs) zero (suc zero) e lt = refl
    go (b ∷ bs) zero (suc (suc i)) e lt = absurd (omega arith)
    go (b ∷ bs) (suc k) (suc zero) e lt = absurd (omega arith)
    go (b ∷ bs) (suc k) (suc (suc i)) e lt = go bs k i (omega arith) (omega arith)

-- a byte takes a nibble that came before it, and leaves its own last
pub nibbles-append_shifted : (bs : List ℕ) (half b : ℕ) → half < 16 → b < 256
    → nibbles (bs ++ (half * 16 + b / 16) ∷ []) ++ (b % 16) ∷ [] ≡ (nibbles bs ++ half ∷ []) ++ (b / 16) ∷ (b % 16) ∷ []
nibbles-append_shifted bs half b p q =
    let high : (half * 16 + b / 16) / 16 ≡ half = omega arith in
    let low : (half * 16 + b / 16) % 16 ≡ b / 16 = omega arith in
    simp (nibbles-append, append_assoc, high, low)
