-- Masks of rising lists.
use Rattle.std.proofs.Common.{◌≡◌, ◌≢◌, ℕ, zero, suc, ◌+◌, ◌-◌, ◌*◌, ◌%◌, ◌<◌, ◌≤◌, ◌^◌, false, cond, ◌==◌, List, [], ◌∷◌, length, refl, ap, sym, subst, ◌∙◌, arith, inl, inr, count_ones, bit_and, mod-lt, zero-mul, suc-mul, Ok, Err}
use lib.Count.{ones}
use Rattle.std.proofs.Math.Pow.{pow_pos}
use Rattle.std.proofs.lemmas.Bool.{lt-ltb, le-ltb}
use Rattle.std.specs.Int.{bit_at, bit_not, w16}
use Rattle.std.proofs.lemmas.Bool.Decides.{eqb_tells, leb_tells}
use Rattle.std.proofs.lemmas.Nat.{and_mask, and_le_l, or_lt, ones_cat, mod-pow-add, one_shl}
use Rattle.std.proofs.lemmas.Nat.Bits.{and_pow, bit_at-lt, bit_at_set_same, bit_at_set_other, bit_at_clear_same, bit_at_clear_other, bit_at_above, bit_at_and}
use Rattle.nibble_map.specs.Lists.{Each}
use Rattle.masked_tree.specs.Mask.{IsRisingFrom, IsMask, bit_of, rank, marked, cleared, IsPlaceOf}

-- numbers that differ fail the test of equality
pub eqb_other : (z y : ℕ) → z ≢ y → (z == y) ≡ false
eqb_other z y h = elim (eqb_tells z y) [ inl t ↦ absurd (h t.1) | inr t ↦ t.0 ]

-- no number of a rising list is below its start
rank_before : (xs : List ℕ) (from k : ℕ) → IsRisingFrom from xs → k ≤ from → rank k xs ≡ 0
rank_before [] from k h l = refl
rank_before (x ∷ xs) from k h l = rw (le-ltb x k (omega arith)) refl

-- a number below the start of a rising list isn't in it
pub bit_of-before : (xs : List ℕ) (from k : ℕ) → IsRisingFrom from xs → k < from → bit_of k xs ≡ 0
bit_of-before [] from k h l = refl
bit_of-before (x ∷ xs) from k h l =
    elim (eqb_tells x k) [ inl t ↦ absurd (omega arith) | inr t ↦ rw t.0 (bit_of-before xs (suc x) k h.1 (omega arith)) ]

-- below k + 1 a list has what it has below k, and k itself if that is in it
rank_suc : (xs : List ℕ) (from k : ℕ) → IsRisingFrom from xs → rank (suc k) xs ≡ bit_of k xs + rank k xs
rank_suc [] from k h = omega arith
rank_suc (x ∷ xs) from k h =
    elim (eqb_tells x k) [
      | inl t ↦ rw (t.0, lt-ltb x (suc k) (omega arith), le-ltb x k (omega arith)) (omega (arith, rank_before xs (suc x) (suc k) h.1 (omega arith)))
      | inr t ↦ elim (leb_tells (suc x) k) [
        | inl u ↦ rw (t.0, lt-ltb x (suc k) (omega arith), lt-ltb x k (omega arith)) (omega (arith, rank_suc xs (suc x) k h.1))
        | inr u ↦ rw (t.0, le-ltb x (suc k) (omega arith), le-ltb x k (omega arith)) (omega (arith, bit_of-before xs (suc x) k h.1 (omega arith)))
      ]
    ]

-- a single bit has as many ones as its value says
ones_bit : (b : ℕ) → b < 2 → count_ones b ≡ b
unfolding ones
ones_bit zero h = refl
ones_bit (suc zero) h = refl
ones_bit (suc (suc b)) h = absurd (omega arith)

-- the ones among the lowest k + 1 bits are those among the lowest k, and bit k
ones_suc : (m k : ℕ) → count_ones (m % 2 ^ suc k) ≡ bit_at m k + count_ones (m % 2 ^ k)
ones_suc m k =
    let i : 1 + k ≡ suc k = omega arith in
    let e = subst (λ j. m % 2 ^ j ≡ bit_at m k * 2 ^ k + m % 2 ^ k) i (mod-pow-add m 1 k) in
    rw e (ones_cat k (bit_at m k) (m % 2 ^ k) (let p = pow_pos k in omega arith) ∙ ap (λ b. b + count_ones (m % 2 ^ k)) (ones_bit (bit_at m k) (bit_at-lt m k)))

-- the ones among a mask's lowest k bits are as many as the list has numbers below k
ones_rank : (k m : ℕ) (xs : List ℕ) → IsMask m xs → IsRisingFrom 0 xs → count_ones (m % 2 ^ k) ≡ rank k xs
ones_rank zero m xs e h =
    let z : m % 1 ≡ 0 = omega arith in rw (z, rank_before xs 0 0 h (omega arith)) (ones_bit 0 (omega arith))
ones_rank (suc k) m xs e h = rw (ones_suc m k, e.1 k, ones_rank k m xs e h) (sym (rank_suc xs 0 k h))

-- where a product with a positive number is zero, the other factor is zero
zero_of : (a b : ℕ) → 0 < b → a * b ≡ 0 → a ≡ 0
zero_of zero b p h = refl
zero_of (suc a) b p h = absurd (let e = suc-mul a b in omega arith)

-- the test and the index that a look at a mask makes
module _ (m y : ℕ) (xs : List ℕ) (low : y < 16) (is : IsMask m xs) (rising : IsRisingFrom 0 xs) where
  -- a mask cut down to bit y is that bit at its place, set where the list has y
  bit_and-one_bit : bit_and m (1 * 2 ^ y % 2 ^ 16) ≡ bit_of y xs * 2 ^ y
  bit_and-one_bit = rw (one_shl y 16 low, and_pow m y, is.1 y) refl

  -- the ones of a mask below bit y are as many as the list has numbers below y
  count_ones-below : count_ones (bit_and m (1 * 2 ^ y % 2 ^ 16 - 1)) ≡ rank y xs
  count_ones-below = rw (one_shl y 16 low, and_mask m y) (ones_rank y m xs is rising)

  -- where a mask lacks bit y, the list lacks y, and the ones below y tell where it would stand
  pub place_absent : bit_and m (1 * 2 ^ y % 2 ^ 16) ≡ 0 → IsPlaceOf y xs (Err (count_ones (bit_and m (1 * 2 ^ y % 2 ^ 16 - 1))))
  place_absent h = (zero_of _ (2 ^ y) (pow_pos y) (sym bit_and-one_bit ∙ h), count_ones-below)

  -- where a mask has bit y, the list has y, and the ones below y tell where it stands
  pub place_present : bit_and m (1 * 2 ^ y % 2 ^ 16) ≢ 0 → IsPlaceOf y xs (Ok (count_ones (bit_and m (1 * 2 ^ y % 2 ^ 16 - 1))))
  place_present h = (go _ refl (subst (λ b. b < 2) (is.1 y) (bit_at-lt m y)), count_ones-below)
    where
      go : (b : ℕ) → bit_of y xs ≡ b → b < 2 → b ≡ 1
      go zero e l = absurd (h (bit_and-one_bit ∙ ap (λ b. b * 2 ^ y) e ∙ zero-mul (2 ^ y)))
      go (suc b) e l = omega arith

-- the rank of a number that a rising list has is below the list's length
pub rank_within : (xs : List ℕ) (from y : ℕ) → IsRisingFrom from xs → bit_of y xs ≡ 1 → rank y xs < length xs
rank_within [] from y r h = absurd (omega arith)
rank_within (x ∷ xs) from y r h =
    elim (leb_tells (suc x) y) [
      | inl u ↦ (let d : (x == y) ≡ false = eqb_other _ _ (λ e. omega arith) in let g = rw d at h in
          rw u.0 (let i = rank_within xs (suc x) y r.1 g in omega arith))
      | inr u ↦ rw u.0 (omega arith)
    ]

-- a mark stays within sixteen bits
pub marked_lt : (m y : ℕ) → m < 2 ^ 16 → marked m y < 2 ^ 16
marked_lt m y fits = or_lt 16 m (1 * 2 ^ y % 2 ^ 16) fits (mod-lt (1 * 2 ^ y) (pow_pos 16))

-- a mask with a bit set is that of a list with that number besides
pub bit_at-marked : (m y n : ℕ) (xs : List ℕ) → y < 16 → IsMask m xs → bit_at (marked m y) n ≡ cond (y == n) 1 (bit_of n xs)
bit_at-marked m y n xs low is = elim (eqb_tells y n) [
  | inl t ↦ rw (t.0, ← t.1) (bit_at_set_same w16 m y low)
  | inr t ↦ rw t.0 (bit_at_set_other w16 m y low n (λ e. t.1 (sym e)) ∙ is.1 n)
]

bit_at_zero : (n : ℕ) → bit_at 0 n ≡ 0
bit_at_zero n = search arith

-- each number of the list is one of the sixteen bits
bits_small : (xs : List ℕ) (m : ℕ) → m < 2 ^ 16 → ((n : ℕ) → bit_of n xs ≡ 1 → bit_at m n ≡ 1) → Each (λ x. x < 16) xs
bits_small [] m fits has = tt
bits_small (x ∷ xs) m fits has = (small, bits_small xs m fits (λ n i. has n (later n i)))
  where
    small : x < 16
    small = elim (leb_tells 16 x) [
      | inl u ↦ elim (eqb_tells x x) [
        | inl t ↦ (let one = has x (ap (λ b. cond b 1 (bit_of x xs)) t.0) in let none = bit_at_above m 16 x fits u.1 in absurd (omega (arith, one, none)))
        | inr t ↦ absurd (t.1 refl)
      ]
      | inr u ↦ omega (arith, u.1)
    ]

    later : (n : ℕ) → bit_of n xs ≡ 1 → bit_of n (x ∷ xs) ≡ 1
    later n i = elim (eqb_tells x n) [ inl t ↦ rw t.0 refl | inr t ↦ rw t.0 i ]

-- the numbers of a list that has a mask are below sixteen
pub mask_small : (m : ℕ) (xs : List ℕ) → IsMask m xs → Each (λ x. x < 16) xs
mask_small m xs is = bits_small xs m is.0 (λ n i. is.1 n ∙ i)

-- zero is the mask of the empty list
pub zero_is_mask : IsMask 0 []
zero_is_mask = (omega arith, bit_at_zero)

-- no rank in a list is above the list's length
pub rank_most : (xs : List ℕ) (y : ℕ) → rank y xs ≤ length xs
rank_most [] y = omega arith
rank_most (x ∷ xs) y = elim (leb_tells (suc x) y) [
  | inl u ↦ rw u.0 (omega (arith, rank_most xs y))
  | inr u ↦ rw u.0 (omega arith)
]

-- a clearance stays within sixteen bits
pub cleared_lt : (m y : ℕ) → m < 2 ^ 16 → cleared m y < 2 ^ 16
cleared_lt m y fits = omega (arith, fits, and_le_l m (bit_not w16 (1 * 2 ^ y % 2 ^ 16)))

-- a mask with a bit cleared is that of a list without that number
pub bit_at-cleared : (m y n : ℕ) (xs : List ℕ) → y < 16 → IsMask m xs → bit_at (cleared m y) n ≡ cond (y == n) 0 (bit_of n xs)
bit_at-cleared m y n xs low is = elim (eqb_tells y n) [
  | inl t ↦ rw (t.0, ← t.1) (bit_at_clear_same w16 m y low)
  | inr t ↦ rw t.0 (elim (leb_tells (suc n) 16) [
    | inl u ↦ bit_at_clear_other w16 m y low n u.1 (λ e. t.1 (sym e)) ∙ is.1 n
    | inr u ↦ (let a = bit_at_and m (bit_not w16 (1 * 2 ^ y % 2 ^ 16)) n in let b = bit_at_above m 16 n is.0 (omega (arith, u.1)) in let c = is.1 n in omega (arith, a, b, c))
  ])
]
