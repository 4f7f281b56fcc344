-- What stands in an image, and what it says of the keys.
use Rattle.std.proofs.Common.{◌≡◌, ℕ, zero, suc, ◌+◌, ◌-◌, ◌*◌, ◌^◌, ◌<◌, ◌≤◌, inl, inr, Bool, true, false, List, [], ◌∷◌, length, take, drop, get_or, sym, ap, subst, ◌∙◌, arith}
use Rattle.std.proofs.lemmas.Bool.{cases_lt}
use Rattle.std.proofs.lemmas.List.{get_or-drop, get_or-take, get_or_past, length-take}
use Rattle.std.proofs.lemmas.Option.{get_or_from_slice_get}
use Rattle.std.specs.declared.cmp.Ordering.{Ordering}
use Rattle.nibble_map.specs.Lists.{Each, IsBefore, IsPrefix, IsRising}
use Rattle.nibble_map.proofs.TreeLemmas.SomePrefixes.{before_through}
use Rattle.encoded_keys.specs.Codes.{IsLastPrefix, IsSide, code_at, is_in_front}
use Rattle.sorted_tables.specs.Tables.{IsLastOf}
use Rattle.sorted_tables.proofs.TableLemmas.Links.{last_of_same}
use Rattle.radix_keys.proofs.KeyLemmas.Order.{three_ways}
use Rattle.encoded_keys.specs.Heads.{IsTop}
use Rattle.encoded_keys.proofs.CodeLemmas.Heads.{head-before}
use Rattle.image_parts.specs.Parts.{listed, row_count}
use Rattle.image_parts.proofs.ByteLemmas.{length-listed, listed_at}
use Rattle.flat_texts.specs.TextImages.{AreRightPairs, IsTextImage, counts_listed, key_bound, key_bytes, key_code, key_codes, key_end, key_head, key_in, key_start, keys_place, keys_size, stored_count, stored_head, stored_heads}
use Rattle.flat_texts.proofs.HeadLemmas.{behind_by_head, front_by_head, nibbles_fit, other_by_head}

-- parts of bytes are bytes
taken_fit : (n : ℕ) (xs : List ℕ) → ((i : ℕ) → get_or xs i 0 < 256) → (i : ℕ) → get_or (take n xs) i 0 < 256
taken_fit n xs fits i = elim (cases_lt i n) [
  | inl lt ↦ let same = get_or-take n xs i 0 lt in let own = fits i in omega (arith, same, own)
  | inr ge ↦ let none = get_or_past (take n xs) i 0 (omega (arith, length-take n xs, ge)) in omega (arith, none)
]

dropped_fit : (n : ℕ) (xs : List ℕ) → ((i : ℕ) → get_or xs i 0 < 256) → (i : ℕ) → get_or (drop n xs) i 0 < 256
dropped_fit n xs fits i = let same = get_or-drop n xs i 0 in let own = fits (n + i) in omega (arith, same, own)

-- so the nibbles of a key are below 16
pub code_fits : (bs : List ℕ) → ((i : ℕ) → get_or bs i 0 < 256) → (i k : ℕ) → get_or (key_code bs i) k 0 < 16
code_fits bs fits i k =
    nibbles_fit (key_in bs i)
    (taken_fit (key_end bs i - key_start bs i) (drop (key_start bs i) (key_bytes bs))
    (dropped_fit (key_start bs i) (key_bytes bs)
    (taken_fit (keys_size bs) (drop (keys_place bs) bs) (dropped_fit (keys_place bs) bs fits)))) k

-- what is listed at an index
pub listed_read : {X : Type 0} (f : ℕ → X) (n i : ℕ) (d : X) → i < n → get_or (listed f n) i d ≡ f i
listed_read f n i d l = get_or_from_slice_get (listed f n) i (f i) d (listed_at f n i l)

-- as many lists as keys, each the nibbles of its key
pub length-codes : (bs : List ℕ) → length (key_codes bs) ≡ row_count bs
length-codes bs = length-listed (key_code bs) (row_count bs)

pub code_is : (bs : List ℕ) (i : ℕ) → i < row_count bs → code_at (key_codes bs) i ≡ key_code bs i
code_is bs i l = listed_read (key_code bs) (row_count bs) i [] l

-- of right pairs the earlier key comes before the later
pub code_before : (bs : List ℕ) (n i j : ℕ) → AreRightPairs bs n → i < j → j < n → IsBefore (key_code bs i) (key_code bs j)
code_before bs n i zero right l m = absurd (omega (arith, l))
code_before bs n i (suc j) right l m =
    let back : suc j - 1 ≡ j = omega arith in
    let step : IsBefore (key_code bs j) (key_code bs (suc j)) = subst (λ k. IsBefore (key_code bs k) (key_code bs (suc j))) back ((right (suc j) m).after (omega arith)) in
    elim (cases_lt i j) [
      | inl lt ↦ before_through (key_code bs i) (key_code bs j) (key_code bs (suc j)) (code_before bs n i j right lt (omega (arith, m))) step
      | inr ge ↦ let same : j ≡ i = omega (arith, l, ge) in subst (λ k. IsBefore (key_code bs k) (key_code bs (suc j))) same step
    ]

-- what holds at each index holds of each item
each_of : {A : Type 0} (P : A → Type 0) (xs : List A) (d : A) → ((i : ℕ) → i < length xs → P (get_or xs i d)) → Each P xs
each_of P [] d h = tt
each_of P (x ∷ xs) d h = (h 0 (omega arith), each_of P xs d (λ i l. h (suc i) (omega (arith, l))))

-- lists of which each earlier comes before each later one rise
rising_of : (cs : List (List ℕ)) → ((i j : ℕ) → i < j → j < length cs → IsBefore (code_at cs i) (code_at cs j)) → IsRising cs
rising_of [] h = tt
rising_of (c ∷ cs) h = (
  each_of (IsBefore c) cs [] (λ j l. h 0 (suc j) (omega arith) (omega (arith, l))),
  rising_of cs (λ i j l m. h (suc i) (suc j) (omega (arith, l)) (omega (arith, m))),
)

-- so those of an image do
pub codes_rise : (bs : List ℕ) → AreRightPairs bs (row_count bs) → IsRising (key_codes bs)
codes_rise bs right = rising_of (key_codes bs) (λ i j l m.
    let within : j < row_count bs = omega (arith, m, length-codes bs) in
    subst (λ c. IsBefore c (code_at (key_codes bs) j)) (sym (code_is bs i (omega (arith, l, within))))
    (subst (IsBefore (key_code bs i)) (sym (code_is bs j within)) (code_before bs (row_count bs) i j right l within)))

module _ (bs : List ℕ) (image : IsTextImage bs) (t : Bool) (q : List ℕ) (bound : ℕ) (is : bound ≡ key_bound t q) (k : ℕ) (within : k < row_count bs) where
  -- a key whose head is below the bound of a search is in front
  pub span_front : ((i : ℕ) → get_or q i 0 < 16) → stored_head bs k < bound → is_in_front t q (code_at (key_codes bs) k) ≡ true
  span_front nibbles l =
      ap (is_in_front t q) (code_is bs k within) ∙ front_by_head t (key_code bs k) q (λ i _. nibbles i) (omega (arith, l, is, (image.pairs k within).head))

  -- one whose head is above it isn't
  pub span_behind : ((i : ℕ) → get_or bs i 0 < 256) → bound < stored_head bs k → is_in_front t q (code_at (key_codes bs) k) ≡ false
  span_behind fits l =
      ap (is_in_front t q) (code_is bs k within) ∙ behind_by_head t (key_code bs k) q (λ i _. code_fits bs fits k i) (omega (arith, l, is, (image.pairs k within).head))

  -- and is another one
  pub span_apart : bound < stored_head bs k → t ≡ false → code_at (key_codes bs) k ≡ q → ⊥
  span_apart l plain e =
      other_by_head t (key_code bs k) q (omega (arith, l, is, (image.pairs k within).head)) plain (sym (code_is bs k within) ∙ e)

-- the side on which the key at an index lies, where its head is right
pub code_side : (bs : List ℕ) (t : Bool) (q : List ℕ) (k : ℕ) (side : Ordering) → IsTextImage bs → k < row_count bs
    → (stored_head bs k ≡ key_head (key_in bs k) → IsSide t q (key_code bs k) side) → IsSide t q (code_at (key_codes bs) k) side
code_side bs t q k side image within told =
    subst (λ c. IsSide t q c side) (sym (code_is bs k within)) (told (image.pairs k within).head)

module _ (bs : List ℕ) (image : IsTextImage bs) (t c h : ℕ) (within : t < counts_listed bs) (is : c ≡ stored_count bs t) where
  -- the heads that a count counts are below its number
  pub count_below : (k : ℕ) → k < c → t * 2 ^ 48 ≤ h → stored_head bs k < h
  count_below k l le =
      let top = image.counts t within in
      let few : c ≤ row_count bs = omega (arith, top.within, is, length-listed (stored_head bs) (row_count bs)) in
      let less = top.below k (omega (arith, l, is)) in
      omega (arith, less, le, listed_read (stored_head bs) (row_count bs) k 0 (omega (arith, l, few)))

  -- and the others aren't
  pub count_above : (k : ℕ) → c ≤ k → k < row_count bs → h < t * 2 ^ 48 → h < stored_head bs k
  count_above k l m lt =
      let top = image.counts t within in
      let more = top.others k (omega (arith, l, is)) (omega (arith, m, length-listed (stored_head bs) (row_count bs))) in
      omega (arith, more, lt, listed_read (stored_head bs) (row_count bs) k 0 m)

-- the last of the first n keys that is a prefix of a list, by the lists
pub last_of_codes : (bs : List ℕ) (n r : ℕ) (q : List ℕ) → n ≤ row_count bs → IsLastOf (λ k. IsPrefix (key_code bs k) q) n r → IsLastPrefix (key_codes bs) n q r
last_of_codes bs n r q within last = last_of_same (λ k. IsPrefix (key_code bs k) q) (λ k. IsPrefix (code_at (key_codes bs) k) q) n r
    (λ k l. let same = code_is bs k (omega (arith, l, within)) in (
      λ p. subst (λ x. IsPrefix x q) (sym same) p,
      λ p. subst (λ x. IsPrefix x q) same p,
    )) last

-- heads of right pairs don't fall
pub heads_rise : (bs : List ℕ) (n i j : ℕ) → ((k : ℕ) → get_or bs k 0 < 256) → AreRightPairs bs n → i ≤ j → j < n → stored_head bs i ≤ stored_head bs j
heads_rise bs n i j fits right l m = elim (cases_lt i j) [
  | inl lt ↦
      let le = head-before 0 16 (key_code bs i) (key_code bs j) (λ k _. code_fits bs fits i k) (code_before bs n i j right lt m) in
      omega (arith, le, (right i (omega (arith, lt, m))).head, (right j m).head)
  | inr ge ↦ let same : i ≡ j = omega (arith, l, ge) in let e = ap (stored_head bs) same in omega (arith, e)
]

-- the keys of right pairs come before one that comes after the last of them
pub before_next : (bs : List ℕ) (n : ℕ) → AreRightPairs bs n → (0 < n → IsBefore (key_code bs (n - 1)) (key_code bs n)) → (k : ℕ) → k < n → IsBefore (key_code bs k) (key_code bs n)
before_next bs n right after k l = elim (cases_lt k (n - 1)) [
  | inl lt ↦ before_through (key_code bs k) (key_code bs (n - 1)) (key_code bs n) (code_before bs n k (n - 1) right lt (omega (arith, l))) (after (omega (arith, l)))
  | inr ge ↦ let same : n - 1 ≡ k = omega (arith, l, ge) in subst (λ j. IsBefore (key_code bs j) (key_code bs n)) same (after (omega (arith, l)))
]

-- there is one last of those that are sought
pub one_last : (P : ℕ → Type 0) (n r s : ℕ) → IsLastOf P n r → IsLastOf P n s → r ≡ s
one_last P n r s x y = elim (three_ways r s) [
  | inl lt ↦ absurd (x.none (s - 1) (omega (arith, lt)) (let le = y.within in omega (arith, lt, le)) (y.holds (omega (arith, lt))))
  | inr (inl e) ↦ e
  | inr (inr gt) ↦ absurd (y.none (r - 1) (omega (arith, gt)) (let le = x.within in omega (arith, gt, le)) (x.holds (omega (arith, gt))))
]

-- a count is right where the heads at its sides bear it out
pub count_right : (bs : List ℕ) (t c : ℕ) → c ≡ stored_count bs t → c ≤ row_count bs → ((k : ℕ) → k < c → stored_head bs k < t * 2 ^ 48)
    → ((k : ℕ) → c ≤ k → k < row_count bs → t * 2 ^ 48 ≤ stored_head bs k) → IsTop (stored_heads bs) t (stored_count bs t)
count_right bs t c is within below from = record {
  within = omega (arith, within, is, length-listed (stored_head bs) (row_count bs));
  below = λ k l.
      let less = below k (omega (arith, l, is)) in
      omega (arith, less, listed_read (stored_head bs) (row_count bs) k 0 (omega (arith, l, is, within)));
  others = λ k l m.
      let inside : k < row_count bs = omega (arith, m, length-listed (stored_head bs) (row_count bs)) in
      let least = from k (omega (arith, l, is)) inside in
      omega (arith, least, listed_read (stored_head bs) (row_count bs) k 0 inside);
}

-- and bears out those
module _ (bs : List ℕ) (t c : ℕ) (is : c ≡ stored_count bs t) (top : IsTop (stored_heads bs) t (stored_count bs t)) where
  pub right_within : c ≤ row_count bs
  right_within = omega (arith, top.within, is, length-listed (stored_head bs) (row_count bs))

  pub right_below : (k : ℕ) → k < c → stored_head bs k < t * 2 ^ 48
  right_below k l =
      let less = top.below k (omega (arith, l, is)) in
      omega (arith, less, listed_read (stored_head bs) (row_count bs) k 0 (omega (arith, l, right_within)))

  pub right_from : (k : ℕ) → c ≤ k → k < row_count bs → t * 2 ^ 48 ≤ stored_head bs k
  right_from k l m =
      let least = top.others k (omega (arith, l, is)) (omega (arith, m, length-listed (stored_head bs) (row_count bs))) in
      omega (arith, least, listed_read (stored_head bs) (row_count bs) k 0 m)
