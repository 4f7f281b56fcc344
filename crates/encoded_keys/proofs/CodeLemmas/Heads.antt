-- The first nibbles of a list as a number: how it is made, and which order it tells.
use Rattle.std.proofs.Common.{◌≡◌, ℕ, zero, suc, ◌+◌, ◌-◌, ◌*◌, ◌/◌, ◌%◌, ◌^◌, ◌<◌, ◌≤◌, inl, inr, Bool, true, false, List, [], ◌∷◌, ◌++◌, length, min, take, get_or, refl, sym, ap, subst, ◌∙◌, pow_pos, pow-add, arith}
use Rattle.std.proofs.Math.Nat.{div-eq_of_lt-le, mul-le-mul_right, mul_assoc, mul_comm, pow-suc, pow-succ', suc-mul}
use Rattle.std.proofs.lemmas.Bool.{cases_lt}
use Rattle.std.proofs.lemmas.List.{get_or_past, take_all}
use Rattle.radix_keys.proofs.KeyLemmas.Order.{three_ways}
use Rattle.nibble_map.specs.Lists.{IsBefore, IsPrefix, IsRising}
use Rattle.nibble_map.proofs.ListLemmas.Cut.{cons_head, cons_same, cons_tail}
use Rattle.nibble_map.proofs.ListLemmas.Parted.{prefix_itself}
use Rattle.encoded_keys.specs.Codes.{code_at, is_before, is_until}
use Rattle.std.specs.Int.{w64, from_be_bytes}
use Rattle.encoded_keys.specs.Heads.{bound_of, head_in, head_padded, AreNibbles}
use Rattle.encoded_keys.proofs.CodeLemmas.Order.{before_by_test, before_passes, until_by_before, until_by_prefix, until_by_test, which_before}
use Rattle.encoded_keys.proofs.CodeLemmas.Parts.{rising_at}

-- nibbles behind the first are nibbles
AreNibbles-tail : (n a : ℕ) (c : List ℕ) → AreNibbles (suc n) (a ∷ c) → AreNibbles n c
AreNibbles-tail n a c h = λ k l. h (suc k) (omega (arith, l))

-- nothing padded with zeros is zero
head-nil : (n : ℕ) → head_padded 0 n [] ≡ 0
unfolding head_padded
head-nil zero = refl
head-nil (suc n) = let e = head-nil n in omega (arith, e)

-- a head of n nibbles is below 16 to the n
pub head-lt : (d n : ℕ) (c : List ℕ) → d < 16 → AreNibbles n c → head_padded d n c < 16 ^ n
unfolding head_padded
head-lt d zero c low h = omega arith
head-lt d (suc n) [] low h =
    let rest = head-lt d n [] low (λ k l. omega arith) in
    let first : suc d ≤ 16 = omega (arith, low) in
    let m : suc d * 16 ^ n ≤ 16 * 16 ^ n = mul-le-mul_right (16 ^ n) first in
    rw (pow-succ' 16 n) (omega (arith, m, suc-mul d (16 ^ n), rest))
head-lt d (suc n) (a ∷ c) low h =
    let rest = head-lt d n c low (AreNibbles-tail n a c h) in
    let first : suc a ≤ 16 = (let here : a < 16 = h 0 (omega arith) in omega (arith, here)) in
    let m : suc a * 16 ^ n ≤ 16 * 16 ^ n = mul-le-mul_right (16 ^ n) first in
    rw (pow-succ' 16 n) (omega (arith, m, suc-mul a (16 ^ n), rest))

-- a head of no nibble is zero
pub head-none : (d : ℕ) (c : List ℕ) → 0 ≡ head_padded d 0 c
unfolding head_padded
head-none d c = refl

-- the head of a list that comes before another isn't above its head, whatever that is padded with
pub head-before : (p n : ℕ) (c d : List ℕ) → AreNibbles n c → IsBefore c d → head_padded 0 n c ≤ head_padded p n d
unfolding head_padded
head-before p zero c d h b = omega arith
head-before p (suc n) [] d h b = let e = head-nil n in omega (arith, e)
head-before p (suc n) (a ∷ c) [] h b = absurd b
head-before p (suc n) (a ∷ c) (e ∷ d) h (inl l) =
    let rest = head-lt 0 n c (omega arith) (AreNibbles-tail n a c h) in
    let first : suc a ≤ e = omega (arith, l) in
    let m : suc a * 16 ^ n ≤ e * 16 ^ n = mul-le-mul_right (16 ^ n) first in
    omega (arith, m, suc-mul a (16 ^ n), rest)
head-before p (suc n) (a ∷ c) (e ∷ d) h (inr (s, b)) =
    let r = head-before p n c d (AreNibbles-tail n a c h) b in omega (arith, r, ap (λ x. x * 16 ^ n) s)

-- nothing padded with fifteens is one less than the power
head-most : (n : ℕ) → head_padded 15 n [] + 1 ≡ 16 ^ n
unfolding head_padded
head-most zero = omega arith
head-most (suc n) = let e = head-most n in let p = pow-succ' 16 n in omega (arith, e, p)

-- the head of a list that begins with another isn't above its head with fifteens
pub head-prefix : (n : ℕ) (q c : List ℕ) → AreNibbles n c → IsPrefix q c → head_padded 0 n c ≤ head_padded 15 n q
unfolding head_padded
head-prefix zero q c h p = omega arith
head-prefix (suc n) [] c h p = let lt = head-lt 0 (suc n) c (omega arith) h in let most = head-most (suc n) in omega (arith, lt, most)
head-prefix (suc n) (a ∷ q) [] h p = absurd (let e : [] ≡ a ∷ (q ++ p.0) = p.1 in cc e)
head-prefix (suc n) (a ∷ q) (d ∷ c) h (t, e) =
    let r = head-prefix n q c (AreNibbles-tail n d c h) (t, cons_tail e) in
    omega (arith, r, ap (λ x. x * 16 ^ n) (cons_head e))

-- a list behind a short one whose head isn't above that one's with fifteens begins with it
pub prefix_by_head : (n : ℕ) (q c : List ℕ) → length q ≤ n → AreNibbles n q → IsBefore q c → head_padded 0 n c ≤ head_padded 15 n q → IsPrefix q c
unfolding head_padded
prefix_by_head n [] c l h b le = (c, refl)
prefix_by_head zero (a ∷ q) c l h b le = absurd (omega (arith, l))
prefix_by_head (suc n) (a ∷ q) [] l h b le = absurd b
prefix_by_head (suc n) (a ∷ q) (d ∷ c) l h (inl less) le =
    let rest = head-lt 15 n q (omega arith) (AreNibbles-tail n a q h) in
    let first : suc a ≤ d = omega (arith, less) in
    let m : suc a * 16 ^ n ≤ d * 16 ^ n = mul-le-mul_right (16 ^ n) first in
    absurd (omega (arith, m, suc-mul a (16 ^ n), rest, le))
prefix_by_head (suc n) (a ∷ q) (d ∷ c) l h (inr (s, b)) le =
    let r = prefix_by_head n q c (omega (arith, l)) (AreNibbles-tail n a q h) b (let e = ap (λ x. x * 16 ^ n) s in omega (arith, le, e)) in
    (r.0, cons_same (sym s) r.1)

-- one nibble more in a head
pub head-more : (d n : ℕ) (c : List ℕ) → head_padded d (suc n) c ≡ head_padded d n c * 16 + get_or c n d
unfolding head_padded
head-more d zero [] = let one : 16 ^ 0 ≡ 1 = omega arith in let p : d * 16 ^ 0 ≡ d = ap (λ x. d * x) one ∙ omega arith in omega (arith, p)
head-more d zero (a ∷ c) = let one : 16 ^ 0 ≡ 1 = omega arith in let p : a * 16 ^ 0 ≡ a = ap (λ x. a * x) one ∙ omega arith in omega (arith, p)
head-more d (suc n) [] =
    let e = head-more d n [] in
    let p : d * 16 ^ suc n ≡ d * 16 ^ n * 16 = ap (λ x. d * x) (pow-suc 16 n) ∙ sym (mul_assoc d (16 ^ n) 16) in
    omega (arith, e, p)
head-more d (suc n) (a ∷ c) =
    let e = head-more d n c in
    let p : a * 16 ^ suc n ≡ a * 16 ^ n * 16 = ap (λ x. a * x) (pow-suc 16 n) ∙ sym (mul_assoc a (16 ^ n) 16) in
    omega (arith, e, p)

-- two nibbles more in a head
pub head-two : (d n : ℕ) (c : List ℕ) → head_padded d (suc (suc n)) c ≡ head_padded d n c * 256 + (get_or c n d * 16 + get_or c (suc n) d)
head-two d n c = omega (arith, head-more d n c, head-more d (suc n) c)

-- of two lists with the same first nibbles the one that comes before has no more of them
marks_rise : (n : ℕ) (c d : List ℕ) → AreNibbles n c → IsBefore c d → head_padded 0 n c ≡ head_padded 0 n d → min (length c) n ≤ min (length d) n
unfolding head_padded
marks_rise zero c d h b e = omega arith
marks_rise (suc n) [] d h b e = omega arith
marks_rise (suc n) (a ∷ c) [] h b e = absurd b
marks_rise (suc n) (a ∷ c) (x ∷ d) h (inl l) e =
    let rest = head-lt 0 n c (omega arith) (AreNibbles-tail n a c h) in
    let first : suc a ≤ x = omega (arith, l) in
    let m : suc a * 16 ^ n ≤ x * 16 ^ n = mul-le-mul_right (16 ^ n) first in
    absurd (omega (arith, m, suc-mul a (16 ^ n), rest, e))
marks_rise (suc n) (a ∷ c) (x ∷ d) h (inr (s, b)) e =
    let r = marks_rise n c d (AreNibbles-tail n a c h) b (let f = ap (λ y. y * 16 ^ n) s in omega (arith, e, f)) in
    omega (arith, r)

-- the head of a list that comes before another isn't above its head
pub head_rises : (c d : List ℕ) → AreNibbles 15 c → IsBefore c d → head_in c ≤ head_in d
head_rises c d h b =
    let le = head-before 0 15 c d h b in
    elim (cases_lt (head_padded 0 15 c) (head_padded 0 15 d)) [
      | inl lt ↦ omega (arith, lt)
      | inr other ↦ (let marks = marks_rise 15 c d h b (omega (arith, le, other)) in omega (arith, le, other, marks))
    ]

-- of two lists that have as many of the first n nibbles these are the same where they make the same number
same_first : (n : ℕ) (c d : List ℕ) → AreNibbles n c → AreNibbles n d → min (length c) n ≡ min (length d) n → head_padded 0 n c ≡ head_padded 0 n d → take n c ≡ take n d
unfolding head_padded
same_first zero c d h k m e = refl
same_first (suc n) [] [] h k m e = refl
same_first (suc n) [] (x ∷ d) h k m e = absurd (omega (arith, m))
same_first (suc n) (a ∷ c) [] h k m e = absurd (omega (arith, m))
same_first (suc n) (a ∷ c) (x ∷ d) h k m e =
    let one = head-lt 0 n c (omega arith) (AreNibbles-tail n a c h) in
    let other = head-lt 0 n d (omega arith) (AreNibbles-tail n x d k) in
    elim (three_ways a x) [
      | inl lt ↦ (let le : suc a * 16 ^ n ≤ x * 16 ^ n = mul-le-mul_right (16 ^ n) (omega (arith, lt)) in absurd (omega (arith, le, suc-mul a (16 ^ n), one, e)))
      | inr (inl s) ↦ cons_same s (same_first n c d (AreNibbles-tail n a c h) (AreNibbles-tail n x d k) (omega (arith, m))
          (let f = ap (λ y. y * 16 ^ n) s in omega (arith, e, f)))
      | inr (inr gt) ↦ (let le : suc x * 16 ^ n ≤ a * 16 ^ n = mul-le-mul_right (16 ^ n) (omega (arith, gt)) in absurd (omega (arith, le, suc-mul x (16 ^ n), other, e)))
    ]

-- lists with the same head agree in 15 nibbles
pub taken_by_head : (c q : List ℕ) → AreNibbles 15 c → AreNibbles 15 q → head_in c ≡ head_in q → take 15 c ≡ take 15 q
taken_by_head c q h k e = same_first 15 c q h k (omega (arith, e)) (omega (arith, e))

-- a head that counts fewer than 15 nibbles tells the list
pub same_by_head : (c q : List ℕ) → AreNibbles 15 c → AreNibbles 15 q → head_in c ≡ head_in q → head_in c % 16 < 15 → c ≡ q
same_by_head c q h k e l = sym (take_all 15 c (omega (arith, l))) ∙ taken_by_head c q h k e ∙ take_all 15 q (omega (arith, e, l))

-- a list with a smaller head comes before
pub before_by_head : (c q : List ℕ) → AreNibbles 15 q → head_in c < head_in q → is_before c q ≡ true
before_by_head c q h l = elim (which_before c q) [
  | inl b ↦ before_passes c q b
  | inr (inl e) ↦ absurd (let same = ap head_in e in omega (arith, l, same))
  | inr (inr g) ↦ absurd (let no = head_rises q c h g in omega (arith, l, no))
]

-- a list with a greater head doesn't
pub not_before_by_head : (c q : List ℕ) → AreNibbles 15 c → head_in q < head_in c → is_before c q ≡ false
not_before_by_head c q h l = elim (which_before c q) [
  | inl b ↦ absurd (let no = head_rises c q h b in omega (arith, l, no))
  | inr (inl e) ↦ absurd (let same = ap head_in e in omega (arith, l, same))
  | inr (inr g) ↦ by _ refl g
]
  where
    by : (t : Bool) → is_before c q ≡ t → IsBefore q c → is_before c q ≡ false
    by false e g = e
    by true e g = absurd (let no = head_rises c q h (before_by_test c q e) in omega (arith, l, no))

-- the head of a long list isn't padded
head_of_long : (d n : ℕ) (c : List ℕ) → n ≤ length c → head_padded d n c ≡ head_padded 0 n c
unfolding head_padded
head_of_long d zero c l = refl
head_of_long d (suc n) [] l = absurd (omega (arith, l))
head_of_long d (suc n) (a ∷ c) l = ap (λ h. a * 16 ^ n + h) (head_of_long d n c (omega (arith, l)))

-- nor is what a search for one compares with
pub bound_of_long : (t : Bool) (q : List ℕ) → 15 ≤ length q → head_padded 0 15 q * 16 + 15 ≡ bound_of t q
bound_of_long false q l = omega (arith, l)
bound_of_long true q l = let e = head_of_long 15 15 q l in omega (arith, e)

-- what comes before a list or begins with it has no head above its head with fifteens
pub not_until_by_head : (c q : List ℕ) → AreNibbles 15 c → bound_of true q < head_in c → is_until c q ≡ false
not_until_by_head c q h l = by _ refl
  where
    by : (t : Bool) → is_until c q ≡ t → is_until c q ≡ false
    by false e = e
    by true e = elim (until_by_test c q e) [
      | inl b ↦ absurd (let no = head-before 15 15 c q h b in omega (arith, l, no))
      | inr p ↦ absurd (let no = head-prefix 15 q c h p in omega (arith, l, no))
    ]

-- of a short list those are all
pub until_by_head : (c q : List ℕ) → length q ≤ 15 → AreNibbles 15 q → head_in c ≤ bound_of true q → is_until c q ≡ true
until_by_head c q short h le = elim (which_before c q) [
  | inl b ↦ until_by_before c q b
  | inr (inl e) ↦ until_by_prefix c q (subst (IsPrefix q) (sym e) (prefix_itself q))
  | inr (inr g) ↦ until_by_prefix c q (prefix_by_head 15 q c short h g (omega (arith, le)))
]

-- a list whose head is below that of another with fifteens comes before it or begins with it
pub until_by_less : (c q : List ℕ) → AreNibbles 15 q → head_in c < bound_of true q → is_until c q ≡ true
until_by_less c q h l = elim (cases_lt 15 (length q)) [
  | inl long ↦ until_by_before c q (before_by_test c q (before_by_head c q h (let e = head_of_long 15 15 q (omega (arith, long)) in omega (arith, e, l, long))))
  | inr short ↦ until_by_head c q short h (omega (arith, l))
]

-- numbers that are the heads of rising lists don't fall
pub heads_rise : (cs : List (List ℕ)) (heads : List ℕ) → IsRising cs → ((i : ℕ) → i < length cs → AreNibbles 15 (code_at cs i)) → length heads ≡ length cs
    → ((i : ℕ) → i < length cs → get_or heads i 0 ≡ head_in (code_at cs i)) → (i j : ℕ) → i ≤ j → j < length heads → get_or heads i 0 ≤ get_or heads j 0
heads_rise cs heads rises nibbles many at i j l m =
    let in_i = at i (omega (arith, l, m, many)) in
    let in_j = at j (omega (arith, m, many)) in
    elim (three_ways i j) [
      | inl lt ↦ (let le = head_rises (code_at cs i) (code_at cs j) (nibbles i (omega (arith, lt, m, many))) (rising_at cs rises i j lt (omega (arith, m, many))) in omega (arith, in_i, in_j, le))
      | inr (inl e) ↦ (let same = ap (λ k. get_or heads k 0) e in omega (arith, same))
      | inr (inr g) ↦ absurd (omega (arith, g, l))
    ]

-- the first eight bytes of a list as one number are its first 16 nibbles
pub word_head : (bs c : List ℕ) → ((i : ℕ) → i < 8 → get_or bs i 0 ≡ get_or c (2 * i) 0 * 16 + get_or c (2 * i + 1) 0) → from_be_bytes w64 bs ≡ head_padded 0 16 c
word_head bs c two =
    let byte = get_or bs in
    let word : from_be_bytes w64 bs ≡ byte 0 0 * 256 ^ 7 + byte 1 0 * 256 ^ 6 + byte 2 0 * 256 ^ 5 + byte 3 0 * 256 ^ 4 + byte 4 0 * 256 ^ 3 + byte 5 0 * 256 ^ 2 + byte 6 0 * 256 + byte 7 0 = refl in
    let e₀ : byte 0 0 ≡ get_or c 0 0 * 16 + get_or c 1 0 = two 0 (omega arith) in
    let e₁ : byte 1 0 ≡ get_or c 2 0 * 16 + get_or c 3 0 = two 1 (omega arith) in
    let e₂ : byte 2 0 ≡ get_or c 4 0 * 16 + get_or c 5 0 = two 2 (omega arith) in
    let e₃ : byte 3 0 ≡ get_or c 6 0 * 16 + get_or c 7 0 = two 3 (omega arith) in
    let e₄ : byte 4 0 ≡ get_or c 8 0 * 16 + get_or c 9 0 = two 4 (omega arith) in
    let e₅ : byte 5 0 ≡ get_or c 10 0 * 16 + get_or c 11 0 = two 5 (omega arith) in
    let e₆ : byte 6 0 ≡ get_or c 12 0 * 16 + get_or c 13 0 = two 6 (omega arith) in
    let e₇ : byte 7 0 ≡ get_or c 14 0 * 16 + get_or c 15 0 = two 7 (omega arith) in
    omega (
      arith,
      word,
      e₀,
      e₁,
      e₂,
      e₃,
      e₄,
      e₅,
      e₆,
      e₇,
      head-none 0 c,
      head-two 0 0 c,
      head-two 0 2 c,
      head-two 0 4 c,
      head-two 0 6 c,
      head-two 0 8 c,
      head-two 0 10 c,
      head-two 0 12 c,
      head-two 0 14 c,
    )

-- with fifteens for what a list lacks the number is greater by as many ones
head_filled : (n : ℕ) (q : List ℕ) → length q ≤ n → head_padded 15 n q + 1 ≡ head_padded 0 n q + 16 ^ (n - length q)
unfolding head_padded
head_filled zero [] l = omega arith
head_filled zero (a ∷ q) l = absurd (omega (arith, l))
head_filled (suc n) [] l =
    let all : suc n - 0 ≡ suc n = omega arith in
    omega (arith, head-most (suc n), head-nil (suc n), ap (λ m. 16 ^ m) all)
head_filled (suc n) (a ∷ q) l =
    let rest = head_filled n q (omega (arith, l)) in
    let left : suc n - suc (length q) ≡ n - length q = omega arith in
    omega (arith, rest, ap (λ m. 16 ^ m) left)

two_four : (m : ℕ) → 2 ^ (4 * m) ≡ 16 ^ m
two_four zero = refl
two_four (suc m) =
    let next : 4 * suc m ≡ 4 + 4 * m = omega arith in
    let four : 2 ^ 4 ≡ 16 = refl in
    ap (λ n. 2 ^ n) next ∙ pow-add 2 4 (4 * m) ∙ ap (λ n. n * 2 ^ (4 * m)) four ∙ ap (λ n. 16 * n) (two_four m) ∙ sym (pow-succ' 16 m)

-- so many ones, of eight bytes
ones_behind : (m : ℕ) → m ≤ 16 → 18446744073709551615 / 2 ^ (4 * m) + 1 ≡ 16 ^ (16 - m)
ones_behind m l =
    let x = 2 ^ (4 * m) in
    let y = 16 ^ (16 - m) in
    let whole : m + (16 - m) ≡ 16 = omega (arith, l) in
    let power : 16 ^ 16 ≡ 18446744073709551616 = refl in
    let all : y * x ≡ 18446744073709551616 =
    mul_comm y x ∙ ap (λ n. n * y) (two_four m) ∙ sym (pow-add 16 m (16 - m)) ∙ ap (λ n. 16 ^ n) whole ∙ power in
    let some : 0 < x = pow_pos (4 * m) in
    let more : 0 < y = subst (λ n. 0 < n) (two_four (16 - m)) (pow_pos (4 * (16 - m))) in
    let back : suc (y - 1) ≡ y = omega (arith, more) in
    let next : y - 1 + 1 ≡ y = omega (arith, more) in
    let less : (y - 1) * x + x ≡ 18446744073709551616 = omega (arith, suc-mul (y - 1) x, ap (λ n. n * x) back, all) in
    let there : (y - 1 + 1) * x ≡ 18446744073709551616 = ap (λ n. n * x) next ∙ all in
    let count : 18446744073709551615 / x ≡ y - 1 = div-eq_of_lt-le x (omega (arith, less, some)) (omega (arith, there)) in
    omega (arith, count, more)

-- the head that a search through a short list compares with
pub filled_head : (q : List ℕ) → ((k : ℕ) → get_or q k 0 < 16) → length q ≤ 14 → head_padded 0 16 q + 18446744073709551615 / 2 ^ (4 * length q) ≡ bound_of true q
filled_head q nibbles l =
    let filled = head_filled 16 q (omega (arith, l)) in
    let ones = ones_behind (length q) (omega (arith, l)) in
    omega (arith, filled, ones, head-more 15 15 q, get_or_past q 15 15 (omega (arith, l)))
