-- A list of nibbles beside the bytes that hold it.
use Rattle.std.proofs.Common.{◌≡◌, ℕ, ◌+◌, ◌-◌, ◌*◌, ◌/◌, ◌%◌, ◌<◌, ◌≤◌, inl, inr, Bool, true, false, List, length, get_or, take, refl, sym, ap, subst, ◌∙◌, arith}
use Rattle.std.proofs.lemmas.Bool.{cases_eq, cases_lt}
use Rattle.std.proofs.lemmas.List.{get_or_default, get_or_past, length-take, take-take, take_more_same}
use Rattle.nibble_map.specs.Nibbles.{nibbles}
use Rattle.radix_keys.specs.Distinct.{nibbles-injective}
use Rattle.radix_keys.specs.Packing.{IsPadded, unpacked}
use Rattle.radix_keys.proofs.NibbleLemmas.Bytes.{take-nibbles_even}
use Rattle.radix_keys.proofs.NibbleLemmas.Packing.{length-unpacked_bytes, length-unpacked_even, get_or-unpacked_even, get_or-unpacked_odd}

-- the unused half of the last byte of an odd list
pub last_half : (bs : List ℕ) (odd : Bool) (i : ℕ) → IsPadded bs odd → odd ≡ true → i + 1 ≡ length bs → get_or bs i 0 % 16 ≡ 0
last_half bs false i p e l = cc
last_half bs true i p e l = let at : length bs - 1 ≡ i = omega (arith, l) in subst (λ k. get_or bs k 0 % 16 ≡ 0) at p.1

module _ (bs : List ℕ) (odd : Bool) (xs : List ℕ) (padded : IsPadded bs odd) (is : unpacked bs odd ≡ xs) where
  -- half as many bytes as nibbles, rounded up
  pub byte_count : (length xs + 1) / 2 ≡ length bs
  byte_count = omega (arith, ap length is, length-unpacked_bytes bs odd padded)

  -- the nibble at an even place is the high half of its byte
  pub even_nibble : (i : ℕ) → i < length xs → i % 2 ≡ 0 → get_or bs (i / 2) 0 / 16 ≡ get_or xs i 0
  even_nibble i l e = get_or-unpacked_even bs odd i padded (omega (arith, l, ap length is)) e ∙ ap (λ ys. get_or ys i 0) is

  -- that at an odd place is the low half
  pub odd_nibble : (i : ℕ) → i < length xs → i % 2 ≡ 1 → get_or bs (i / 2) 0 % 16 ≡ get_or xs i 0
  odd_nibble i l e = get_or-unpacked_odd bs odd i padded (omega (arith, l, ap length is)) e ∙ ap (λ ys. get_or ys i 0) is

  -- the same of both halves of a byte
  pub high_half : (i : ℕ) → 2 * i < length xs → get_or bs i 0 / 16 ≡ get_or xs (2 * i) 0
  high_half i l =
      let half : i ≡ 2 * i / 2 = omega arith in
      ap (λ k. get_or bs k 0 / 16) half ∙ even_nibble (2 * i) l (omega arith)

  pub low_half : (i : ℕ) → 2 * i + 1 < length xs → get_or bs i 0 % 16 ≡ get_or xs (2 * i + 1) 0
  low_half i l =
      let half : i ≡ (2 * i + 1) / 2 = omega arith in
      ap (λ k. get_or bs k 0 % 16) half ∙ odd_nibble (2 * i + 1) l (omega arith)

  -- a nibble is below 16 where its byte is one
  pub nibble_fits : (k : ℕ) → get_or bs (k / 2) 0 < 256 → get_or xs k 0 < 16
  nibble_fits k b = elim (cases_lt k (length xs)) [
    | inr past ↦ (let none = get_or_past xs k 0 past in omega (arith, none))
    | inl l ↦ elim (cases_eq (k % 2) 0) [
      | inl even ↦ (let is = even_nibble k l even in omega (arith, is, b))
      | inr other ↦ (let is = odd_nibble k l (omega (arith, other)) in omega (arith, is))
    ]
  ]

  -- the two nibbles of a byte, with another number for each that the list lacks: of a byte behind the list
  pub two_past : (i d : ℕ) → length bs ≤ i → d * 17 ≡ get_or xs (2 * i) d * 16 + get_or xs (2 * i + 1) d
  two_past i d l =
      let few : length xs ≤ 2 * i = omega (arith, byte_count, l) in
      omega (arith, get_or_past xs (2 * i) d few, get_or_past xs (2 * i + 1) d (omega (arith, few)))

  -- of a whole byte
  pub two_whole : (i d : ℕ) → 2 * i + 1 < length xs → get_or bs i 0 ≡ get_or xs (2 * i) d * 16 + get_or xs (2 * i + 1) d
  two_whole i d l =
      omega (arith, high_half i (omega (arith, l)), low_half i l, get_or_default xs (2 * i) 0 d (omega (arith, l)), get_or_default xs (2 * i + 1) 0 d l)

  -- of a byte whose low half is unused
  pub two_half : (i d : ℕ) → length xs ≡ 2 * i + 1 → get_or bs i 0 % 16 ≡ 0 → get_or bs i 0 + d ≡ get_or xs (2 * i) d * 16 + get_or xs (2 * i + 1) d
  two_half i d l z =
      omega (arith, z, high_half i (omega (arith, l)), get_or_default xs (2 * i) 0 d (omega (arith, l)), get_or_past xs (2 * i + 1) d (omega (arith, l)))

  -- of a byte that holds a nibble, where the other may be unused
  pub two_padded : (i : ℕ) → 2 * i < length xs → get_or bs i 0 ≡ get_or xs (2 * i) 0 * 16 + get_or xs (2 * i + 1) 0
  two_padded i l = elim (cases_lt (2 * i + 1) (length xs)) [
    | inl whole ↦ two_whole i 0 whole
    | inr past ↦ by odd refl past
  ]
    where
      by : (o : Bool) → odd ≡ o → length xs ≤ 2 * i + 1 → get_or bs i 0 ≡ get_or xs (2 * i) 0 * 16 + get_or xs (2 * i + 1) 0
      by false e past = absurd (omega (arith, l, past, ap length is, length-unpacked_even bs odd e))
      by true e past =
          let half = two_half i 0 (omega (arith, l, past)) (last_half bs odd i padded e (omega (arith, l, past, byte_count))) in
          omega (arith, half)

-- a packed list begins as the nibbles of its bytes do
front : (bs : List ℕ) (odd : Bool) (xs : List ℕ) (m : ℕ) → unpacked bs odd ≡ xs → m ≤ length xs → take m xs ≡ take m (nibbles bs)
front bs false xs m is l = ap (take m) (sym is)
front bs true xs m is l =
    ap (take m) (sym is) ∙ take-take m (length (nibbles bs) - 1) (nibbles bs) (let most = length-take (length (nibbles bs) - 1) (nibbles bs) in omega (arith, l, ap length is, most))

-- lists whose first bytes are the same have the same nibbles there, as far as both go
pub same_front : (bs : List ℕ) (o : Bool) (xs cs : List ℕ) (p : Bool) (ys : List ℕ) (i m : ℕ) → unpacked bs o ≡ xs → unpacked cs p ≡ ys → take i bs ≡ take i cs
    → m ≤ 2 * i → m ≤ length xs → m ≤ length ys → take m xs ≡ take m ys
same_front bs o xs cs p ys i m is are same most l k =
    front bs o xs m is l ∙ sym (take-take m (2 * i) (nibbles bs) most) ∙ ap (take m) (take-nibbles_even bs i (2 * i) refl ∙ ap nibbles same ∙ sym (take-nibbles_even cs i (2 * i) refl))
    ∙ take-take m (2 * i) (nibbles cs) most ∙ sym (front cs p ys m are k)

-- lists that agree so far are held by bytes that do so for half as many
pub same_bytes : (bs : List ℕ) (o : Bool) (xs cs : List ℕ) (p : Bool) (ys : List ℕ) (k : ℕ) → unpacked bs o ≡ xs → unpacked cs p ≡ ys → take k xs ≡ take k ys → k ≤ length ys
    → take (k / 2) bs ≡ take (k / 2) cs
same_bytes bs o xs cs p ys k is are same l =
    let h = k / 2 in
    let m = 2 * h in
    let le : m ≤ k = omega arith in
    let in_xs : k ≤ length xs = (let n = ap length same in omega (arith, n, length-take k xs, length-take k ys, l)) in
    let less : take m xs ≡ take m ys = sym (take-take m k xs le) ∙ ap (take m) same ∙ take-take m k ys le in
    nibbles-injective (take h bs) (take h cs)
    (sym (take-nibbles_even bs h m refl) ∙ sym (front bs o xs m is (omega (arith, le, in_xs))) ∙ less ∙ front cs p ys m are (omega (arith, le, l)) ∙ take-nibbles_even cs h m refl)

-- and where the high halves of the next bytes are the same, one nibble more
pub same_high : (bs : List ℕ) (o : Bool) (xs cs : List ℕ) (p : Bool) (ys : List ℕ) (i : ℕ) → IsPadded bs o → unpacked bs o ≡ xs → IsPadded cs p → unpacked cs p ≡ ys
    → take i bs ≡ take i cs → 2 * i < length xs → 2 * i < length ys → get_or bs i 0 / 16 ≡ get_or cs i 0 / 16 → take (2 * i + 1) xs ≡ take (2 * i + 1) ys
same_high bs o xs cs p ys i f is g are same l m half =
    take_more_same xs ys (2 * i) 0 l m
    (same_front bs o xs cs p ys i (2 * i) is are same (omega arith) (omega (arith, l)) (omega (arith, m)))
    (sym (high_half bs o xs f is i l) ∙ half ∙ high_half cs p ys g are i m)
