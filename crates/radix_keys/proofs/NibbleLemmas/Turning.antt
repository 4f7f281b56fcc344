-- The highest bit of a list's first nibble, turned over in its bytes.
use Rattle.std.proofs.Common.{◌≡◌, ℕ, zero, suc, ◌-◌, ◌*◌, ◌/◌, ◌%◌, List, [], ◌∷◌, length, get_or, set, take, Bool, true, false, refl, arith, ap, ◌∙◌}
use Rattle.std.proofs.lemmas.Nat.Bits.{and_pow}
use Rattle.std.specs.Int.Bits.{bit_xor, bit_and, xor_add_and}
use Rattle.nibble_map.specs.Nibbles.{nibbles}
use Rattle.nibble_map.specs.Turned.{turned}
use Rattle.radix_keys.specs.AscendingKeys.{turned_bytes}
use Rattle.std.specs.List.{refill}
use Rattle.radix_keys.specs.Packing.{unpacked}
use Rattle.radix_keys.proofs.NibbleLemmas.Packing.{refill-set}
use Rattle.nibble_map.proofs.ListLemmas.Turned.{length-turned}

-- in nibbles the highest bit of the first one is turned over
pub nibbles-turned : (v : List ℕ) → nibbles (turned_bytes v) ≡ turned (nibbles v)
nibbles-turned [] = refl
nibbles-turned (x ∷ v) =
    let a : bit_and x 128 ≡ x / 128 % 2 * 128 = and_pow x 7 in
    let b = xor_add_and x 128 in
    let c : bit_and (x / 16) 8 ≡ x / 16 / 8 % 2 * 8 = and_pow (x / 16) 3 in
    let d = xor_add_and (x / 16) 8 in
    let high : bit_xor x 128 / 16 ≡ bit_xor (x / 16) 8 = omega (arith, a, b, c, d) in
    let low : bit_xor x 128 % 16 ≡ x % 16 = omega (arith, a, b) in
    λ i. high i ∷ (low i ∷ nibbles v)

-- the bit is turned in the first byte
set-turned : (bs : List ℕ) → set bs 0 (bit_xor (get_or bs 0 0) 128) ≡ turned_bytes bs
set-turned [] = refl
set-turned (b ∷ bs) = refl

-- the front of a turned list is the front of the list, turned
take-turned : (n : ℕ) (xs : List ℕ) → take n (turned xs) ≡ turned (take n xs)
take-turned zero xs = refl
take-turned (suc n) [] = refl
take-turned (suc n) (x ∷ xs) = refl

-- the same of a packed list
-- bytes with their highest bit turned hold the packed list turned over
packed-turned : (bs : List ℕ) (odd : Bool) → unpacked (turned_bytes bs) odd ≡ turned (unpacked bs odd)
packed-turned bs false = nibbles-turned bs
packed-turned bs true =
    ap (λ xs. take (length xs - 1) xs) (nibbles-turned bs)
    ∙ ap (λ n. take (n - 1) (turned (nibbles bs))) (length-turned (nibbles bs))
    ∙ take-turned (length (nibbles bs) - 1) (nibbles bs)

-- a packed list whose first byte is written with its highest bit turned is turned over
pub unpacked-turned : (bs : List ℕ) (odd : Bool)
    → unpacked (refill (length bs) bs (set bs 0 (bit_xor (get_or bs 0 0) 128))) odd ≡ turned (unpacked bs odd)
unpacked-turned bs odd =
    ap (λ b. unpacked b odd) (refill-set bs 0 (bit_xor (get_or bs 0 0) 128) ∙ set-turned bs) ∙ packed-turned bs odd
