-- The first bytes of keys as numbers, and which order they tell.
use Rattle.std.proofs.Common.{◌≡◌, ℕ, zero, suc, ◌+◌, ◌*◌, ◌/◌, ◌^◌, ◌<◌, ◌≤◌, inl, inr, Bool, true, false, List, [], ◌∷◌, length, min, take, get_or, refl, sym, ap, subst, ◌∙◌, arith}
use Rattle.std.proofs.Math.Nat.{mul-le-mul_right, suc-mul}
use Rattle.std.proofs.lemmas.Bool.{cases_lt}
use Rattle.std.proofs.lemmas.List.{get_or_past, take_all}
use Rattle.std.specs.Cmp.{nat_cmp_is}
use Rattle.std.specs.Int.{w64, from_be_bytes}
use Rattle.std.specs.Ordering.{nat_cmp}
use Rattle.std.specs.declared.cmp.Ordering.TheVariants.{Less, Equal, Greater}
use Rattle.nibble_map.specs.Lists.{IsPrefix}
use Rattle.nibble_map.specs.Nibbles.{nibbles}
use Rattle.nibble_map.proofs.ListLemmas.Cut.{cons_same}
use Rattle.nibble_map.proofs.ListLemmas.Parted.{prefix_itself}
use Rattle.radix_keys.proofs.KeyLemmas.Order.{three_ways}
use Rattle.radix_keys.proofs.NibbleLemmas.Bytes.{get_or-nibbles_even, get_or-nibbles_odd, length-nibbles}
use Rattle.radix_keys.proofs.NibbleLemmas.Slices.{nibble_fits}
use Rattle.encoded_keys.specs.Codes.{IsSide, is_before, is_in_front, is_until}
use Rattle.encoded_keys.specs.Heads.{AreNibbles, head_padded}
use Rattle.encoded_keys.proofs.CodeLemmas.Heads.{filled_head, head-before, head-lt, head-more, head-prefix, prefix_by_head, word_head}
use Rattle.encoded_keys.proofs.CodeLemmas.Order.{before_by_test, before_passes, until_by_before, until_by_prefix, until_by_test, which_before}
use Rattle.encoded_keys.proofs.CodeLemmas.Sides.{begun, equal_side, goes_on, greater_side, less_side, side_of_begun, side_of_prefix}
use Rattle.flat_texts.specs.TextImages.{key_bound, key_head}

-- the nibbles of bytes are below 16
pub nibbles_fit : (bs : List ℕ) → ((i : ℕ) → get_or bs i 0 < 256) → (k : ℕ) → get_or (nibbles bs) k 0 < 16
nibbles_fit bs fits k = nibble_fits bs false (nibbles bs) tt refl k (fits (k / 2))

-- the head of bytes is the number of the first eight
pub head_of_word : (bs : List ℕ) → from_be_bytes w64 bs ≡ key_head bs
head_of_word bs = word_head bs (nibbles bs) (λ i l.
    omega (arith, get_or-nibbles_even bs i (2 * i) refl, get_or-nibbles_odd bs i (2 * i + 1) refl))

-- a list of n nibbles or more is not padded
long_head : (d n : ℕ) (c : List ℕ) → n ≤ length c → head_padded d n c ≡ head_padded 0 n c
unfolding head_padded
long_head d zero c l = refl
long_head d (suc n) [] l = absurd (omega (arith, l))
long_head d (suc n) (a ∷ c) l = ap (λ h. a * 16 ^ n + h) (long_head d n c (omega (arith, l)))

-- what a search compares with: through a key of 8 bytes or more
pub bound_of_long : (t : Bool) (bs : List ℕ) → 8 ≤ length bs → key_head bs ≡ key_bound t (nibbles bs)
bound_of_long false bs l = refl
bound_of_long true bs l = sym (long_head 15 16 (nibbles bs) (omega (arith, l, length-nibbles bs)))

-- through a shorter one
pub bound_of_short : (t : Bool) (bs : List ℕ) (h : ℕ) → t ≡ true → length bs < 8 → ((i : ℕ) → get_or bs i 0 < 256) → h ≡ key_head bs
    → h + 18446744073709551615 / 2 ^ (8 * length bs) ≡ key_bound t (nibbles bs)
bound_of_short false bs h e l fits is = absurd (cc e)
bound_of_short true bs h e l fits is =
    let q = nibbles bs in
    let few : length q ≤ 14 = omega (arith, l, length-nibbles bs) in
    let bits : 4 * length q ≡ 8 * length bs = omega (arith, length-nibbles bs) in
    omega (arith, is, filled_head q (nibbles_fit bs fits) few, head-more 15 15 q, get_or_past q 15 15 (omega (arith, few)), ap (λ n. 18446744073709551615 / 2 ^ n) bits)

-- a number of eight bytes
pub bound_fits : (t : Bool) (bs : List ℕ) → ((i : ℕ) → get_or bs i 0 < 256) → key_bound t (nibbles bs) < 18446744073709551616
bound_fits false bs fits = head-lt 0 16 (nibbles bs) (omega arith) (λ k _. nibbles_fit bs fits k)
bound_fits true bs fits = head-lt 15 16 (nibbles bs) (omega arith) (λ k _. nibbles_fit bs fits k)

-- and of a search that isn't one through it
pub bound_plain : (t : Bool) (bs : List ℕ) (h : ℕ) → t ≡ false → h ≡ key_head bs → h ≡ key_bound t (nibbles bs)
bound_plain false bs h e is = is
bound_plain true bs h e is = absurd (cc e)

-- a key with a lesser head comes before
plain_less : (c q : List ℕ) → AreNibbles 16 q → head_padded 0 16 c < head_padded 0 16 q → is_before c q ≡ true
plain_less c q h l = elim (which_before c q) [
  | inl b ↦ before_passes c q b
  | inr (inl e) ↦ absurd (let same = ap (head_padded 0 16) e in omega (arith, l, same))
  | inr (inr g) ↦ absurd (let no = head-before 0 16 q c h g in omega (arith, l, no))
]

-- or begins with the searched one
through_less : (c q : List ℕ) → AreNibbles 16 q → head_padded 0 16 c < head_padded 15 16 q → is_until c q ≡ true
through_less c q h l = elim (which_before c q) [
  | inl b ↦ until_by_before c q b
  | inr (inl e) ↦ until_by_prefix c q (subst (IsPrefix q) (sym e) (prefix_itself q))
  | inr (inr g) ↦ elim (cases_lt 16 (length q)) [
    | inl long ↦ absurd (let no = head-before 0 16 q c h g in let e = long_head 15 16 q (omega (arith, long)) in omega (arith, l, no, e))
    | inr short ↦ until_by_prefix c q (prefix_by_head 16 q c short h g (omega (arith, l)))
  ]
]

-- so a key with a lesser head is in front
pub front_by_head : (t : Bool) (c q : List ℕ) → AreNibbles 16 q → head_padded 0 16 c < key_bound t q → is_in_front t q c ≡ true
front_by_head false = plain_less
front_by_head true = through_less

-- a key with a greater head doesn't come before
plain_more : (c q : List ℕ) → AreNibbles 16 c → head_padded 0 16 q < head_padded 0 16 c → is_before c q ≡ false
plain_more c q h l = by _ refl
  where
    by : (t : Bool) → is_before c q ≡ t → is_before c q ≡ false
    by false e = e
    by true e = absurd (let no = head-before 0 16 c q h (before_by_test c q e) in omega (arith, l, no))

-- nor does it begin with the searched one
through_more : (c q : List ℕ) → AreNibbles 16 c → head_padded 15 16 q < head_padded 0 16 c → is_until c q ≡ false
through_more c q h l = by _ refl
  where
    by : (t : Bool) → is_until c q ≡ t → is_until c q ≡ false
    by false e = e
    by true e = elim (until_by_test c q e) [
      | inl b ↦ absurd (let no = head-before 15 16 c q h b in omega (arith, l, no))
      | inr p ↦ absurd (let no = head-prefix 16 q c h p in omega (arith, l, no))
    ]

-- so a key with a greater head isn't in front
pub behind_by_head : (t : Bool) (c q : List ℕ) → AreNibbles 16 c → key_bound t q < head_padded 0 16 c → is_in_front t q c ≡ false
behind_by_head false = plain_more
behind_by_head true = through_more

-- and is another one
pub other_by_head : (t : Bool) (c q : List ℕ) → key_bound t q < head_padded 0 16 c → t ≡ false → c ≡ q → ⊥
other_by_head false c q l plain e = let same = ap (head_padded 0 16) e in omega (arith, l, same)
other_by_head true c q l plain e = cc plain

-- keys with one head agree in as many of their first 16 nibbles as both have
same_taken : (d n k : ℕ) (c q : List ℕ) → d < 16 → AreNibbles n c → AreNibbles n q → k ≤ n → k ≤ length c → k ≤ length q
    → head_padded 0 n c ≡ head_padded d n q → take k c ≡ take k q
unfolding head_padded
same_taken d n zero c q low h g l m o e = refl
same_taken d zero (suc k) c q low h g l m o e = absurd (omega (arith, l))
same_taken d (suc n) (suc k) [] q low h g l m o e = absurd (omega (arith, m))
same_taken d (suc n) (suc k) (a ∷ c) [] low h g l m o e = absurd (omega (arith, o))
same_taken d (suc n) (suc k) (a ∷ c) (b ∷ q) low h g l m o e =
    let less : AreNibbles n c = λ i j. h (suc i) (omega (arith, j)) in
    let more : AreNibbles n q = λ i j. g (suc i) (omega (arith, j)) in
    let one = head-lt 0 n c (omega arith) less in
    let other = head-lt d n q low more in
    elim (three_ways a b) [
      | inl lt ↦ (let le : suc a * 16 ^ n ≤ b * 16 ^ n = mul-le-mul_right (16 ^ n) (omega (arith, lt)) in absurd (omega (arith, le, suc-mul a (16 ^ n), one, e)))
      | inr (inl s) ↦ cons_same s (same_taken d n k c q low less more (omega (arith, l)) (omega (arith, m)) (omega (arith, o))
          (let f = ap (λ y. y * 16 ^ n) s in omega (arith, e, f)))
      | inr (inr gt) ↦ (let le : suc b * 16 ^ n ≤ a * 16 ^ n = mul-le-mul_right (16 ^ n) (omega (arith, gt)) in absurd (omega (arith, le, suc-mul b (16 ^ n), other, e)))
    ]

same_by_bound : (t : Bool) (k : ℕ) (c q : List ℕ) → AreNibbles 16 c → AreNibbles 16 q → k ≤ 16 → k ≤ length c → k ≤ length q
    → head_padded 0 16 c ≡ key_bound t q → take k c ≡ take k q
same_by_bound false k c q h g l m o e = same_taken 0 16 k c q (omega arith) h g l m o e
same_by_bound true k c q h g l m o e = same_taken 15 16 k c q (omega arith) h g l m o e

-- of two lists that agree as far as both go one begins the other
module _ (q c : List ℕ) (k : ℕ) (same : take k c ≡ take k q) where
  -- so it comes in front of a search through the other one
  pub begun_through : (t : Bool) → t ≡ true → k ≡ min (length c) (length q) → IsSide t q c Less
  begun_through false e all = absurd (cc e)
  begun_through true e all = elim (cases_lt (length c) (length q)) [
    | inl lt ↦ less_side true q c (sym (side_of_prefix true c q (goes_on c q k same (omega (arith, all, lt)) (omega (arith, all, lt)))))
    | inr ge ↦ less_side true q c (sym (side_of_begun true c q (begun c q k same (omega (arith, all, ge)))))
  ]

  -- and in other searches their lengths tell the side
  pub begun_plain : (t : Bool) (a b : ℕ) → t ≡ false → k ≡ min (length c) (length q) → length c ≡ 2 * a → length q ≡ 2 * b → IsSide t q c (nat_cmp a b)
  begun_plain true a b e all many much = absurd (cc e)
  begun_plain false a b e all many much = elim (three_ways a b) [
    | inl lt ↦
        subst (IsSide false q c) (nat_cmp_is a b Less lt)
        (less_side false q c (sym (side_of_prefix false c q (goes_on c q k same (omega (arith, all, lt, many, much)) (omega (arith, all, lt, many, much))))))
    | inr (inl s) ↦
        subst (IsSide false q c) (nat_cmp_is a b Equal s)
        (equal_side false q c refl (sym (take_all k c (omega (arith, all, s, many, much))) ∙ same ∙ take_all k q (omega (arith, all, s, many, much))))
    | inr (inr gt) ↦
        subst (IsSide false q c) (nat_cmp_is a b Greater gt)
        (greater_side false q c (sym (side_of_begun false c q (begun c q k same (omega (arith, all, gt, many, much)))))
        (λ _ s. let l = ap length s in omega (arith, l, gt, many, much)))
  ]

-- the shorter of two keys with one head begins the other where it has at most 8 bytes
pub short_begun : (t : Bool) (own key : List ℕ) → ((i : ℕ) → get_or own i 0 < 256) → ((i : ℕ) → get_or key i 0 < 256)
    → min (length own) (length key) ≤ 8 → key_head own ≡ key_bound t (nibbles key)
    → take (2 * min (length own) (length key)) (nibbles own) ≡ take (2 * min (length own) (length key)) (nibbles key)
short_begun t own key fits bytes few e =
    same_by_bound t (2 * min (length own) (length key)) (nibbles own) (nibbles key) (λ k _. nibbles_fit own fits k) (λ k _. nibbles_fit key bytes k)
    (omega (arith, few)) (omega (arith, length-nibbles own)) (omega (arith, length-nibbles key)) e
