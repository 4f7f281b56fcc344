-- What a packed list of nibbles holds.
use Rattle.std.proofs.Common.{◌≡◌, ℕ, ◌+◌, ◌-◌, ◌*◌, ◌/◌, ◌%◌, ◌<◌, List, [], ◌∷◌, ◌++◌, length, get_or, set, take, Bool, true, false, refl, arith, sym, ◌∙◌, ap, append_assoc, nat_eq}
use Rattle.std.proofs.Math.Bool.{beq}
use Rattle.std.proofs.Math.ListN.{length-set}
use Rattle.std.proofs.lemmas.List.{append-nil, drop_all, get_or-take, length-append, length-take-le, take-append-le, take_all, take_more, take_more_set}
use Rattle.std.proofs.lemmas.Slice.Eq.{bytes_eq-Decides}
use Rattle.std.specs.Cmp.Lexicographic.{pointwise}
use Rattle.std.specs.List.{refill}
use Rattle.nibble_map.specs.Nibbles.{nibbles}
use Rattle.radix_keys.specs.Distinct.{nibbles-injective}
use Rattle.radix_keys.specs.Packing.{unpacked, IsPadded, IsPacked}
use Rattle.radix_keys.proofs.NibbleLemmas.Bytes.{length-nibbles, nibbles-append, get_or-nibbles_even, get_or-nibbles_odd}
use Rattle.nibble_map.proofs.MapLemmas.SameTests.{equal_tests}

-- the count of an odd list is odd, and two nibbles share a byte
-- packed with an odd count, a list is one nibble shorter than twice its bytes
pub length-unpacked_odd : (bs : List ℕ) (odd : Bool) → IsPadded bs odd → odd ≡ true → length (unpacked bs odd) + 1 ≡ 2 * length bs
length-unpacked_odd bs false p e = cc
length-unpacked_odd bs true p e = omega (arith, length-nibbles bs, length-take-le (length (nibbles bs) - 1) (nibbles bs) (omega arith))

-- packed with an even count, a list is twice as long as its bytes
pub length-unpacked_even : (bs : List ℕ) (odd : Bool) → odd ≡ false → length (unpacked bs odd) ≡ 2 * length bs
length-unpacked_even bs false e = length-nibbles bs
length-unpacked_even bs true e = cc

-- a packed list has half as many bytes as nibbles, rounded up
pub length-unpacked_bytes : (bs : List ℕ) (odd : Bool) → IsPadded bs odd → (length (unpacked bs odd) + 1) / 2 ≡ length bs
length-unpacked_bytes bs false p = omega (arith, length-unpacked_even bs false refl)
length-unpacked_bytes bs true p = omega (arith, length-unpacked_odd bs true p refl)

-- the same of a kept list, whose bytes and flag the invariant names
-- a kept list has half as many bytes as nibbles, rounded up
pub length-packed_bytes : {capacity : ℕ} {bs : List ℕ} {odd : Bool} {xs : List ℕ} → IsPacked capacity bs odd → unpacked bs odd ≡ xs
    → (length xs + 1) / 2 ≡ length bs
length-packed_bytes {capacity} {bs} {odd} {xs} p e = omega (arith, ap length e, length-unpacked_bytes bs odd p.padded)

-- a kept list with an odd count is one nibble shorter than twice its bytes
pub length-packed_odd : {capacity : ℕ} {bs : List ℕ} {odd : Bool} {xs : List ℕ} → IsPacked capacity bs odd → unpacked bs odd ≡ xs → odd ≡ true
    → length xs + 1 ≡ 2 * length bs
length-packed_odd {capacity} {bs} {odd} {xs} p e f = omega (arith, ap length e, length-unpacked_odd bs odd p.padded f)

-- a kept list with an even count is twice as long as its bytes
pub length-packed_even : {capacity : ℕ} {bs : List ℕ} {odd : Bool} {xs : List ℕ} → IsPacked capacity bs odd → unpacked bs odd ≡ xs → odd ≡ false
    → length xs ≡ 2 * length bs
length-packed_even {capacity} {bs} {odd} {xs} p e f = omega (arith, ap length e, length-unpacked_even bs odd f)

-- an even count leaves no half unused
pub flag_of_even : {capacity : ℕ} {bs : List ℕ} {odd : Bool} {xs : List ℕ} → IsPacked capacity bs odd → unpacked bs odd ≡ xs → length xs % 2 ≡ 0
    → odd ≡ false
flag_of_even {odd = false} packed is even = refl
flag_of_even {bs = bs} {odd = true} packed is even =
    absurd (omega (arith, even, ap length is, length-unpacked_odd bs true packed.padded refl))

-- the nibble at i is half of the byte at i / 2
-- within a packed list, its nibbles are those of its bytes
get_or-unpacked : (bs : List ℕ) (odd : Bool) (i : ℕ) → IsPadded bs odd → i < length (unpacked bs odd)
    → get_or (nibbles bs) i 0 ≡ get_or (unpacked bs odd) i 0
get_or-unpacked bs false i p lt = refl
get_or-unpacked bs true i p lt =
    sym (get_or-take (length (nibbles bs) - 1) (nibbles bs) i 0 (omega (arith, length-unpacked_odd bs true p refl, length-nibbles bs)))

-- the nibble at an even place i of a packed list is the high half of byte i / 2
pub get_or-unpacked_even : (bs : List ℕ) (odd : Bool) (i : ℕ) → IsPadded bs odd → i < length (unpacked bs odd) → i % 2 ≡ 0
    → get_or bs (i / 2) 0 / 16 ≡ get_or (unpacked bs odd) i 0
get_or-unpacked_even bs odd i p lt e = sym (get_or-nibbles_even bs (i / 2) i (omega arith)) ∙ get_or-unpacked bs odd i p lt

-- the nibble at an odd place i of a packed list is the low half of byte i / 2
pub get_or-unpacked_odd : (bs : List ℕ) (odd : Bool) (i : ℕ) → IsPadded bs odd → i < length (unpacked bs odd) → i % 2 ≡ 1
    → get_or bs (i / 2) 0 % 16 ≡ get_or (unpacked bs odd) i 0
get_or-unpacked_odd bs odd i p lt e = sym (get_or-nibbles_odd bs (i / 2) i (omega arith)) ∙ get_or-unpacked bs odd i p lt

-- half a byte more
-- one more byte of which only the high half counts adds that half to the nibbles
pub unpacked-append_half : (bs : List ℕ) (x : ℕ) → unpacked (bs ++ x ∷ []) true ≡ nibbles bs ++ (x / 16) ∷ []
unpacked-append_half bs x =
    let whole : nibbles (bs ++ x ∷ []) ≡ (nibbles bs ++ (x / 16) ∷ []) ++ (x % 16) ∷ [] =
    nibbles-append bs (x ∷ []) ∙ sym (append_assoc (nibbles bs) ((x / 16) ∷ []) ((x % 16) ∷ [])) in
    let n : length (nibbles (bs ++ x ∷ [])) ≡ length (nibbles bs ++ (x / 16) ∷ []) + 1 =
    ap length whole ∙ length-append (nibbles bs ++ (x / 16) ∷ []) ((x % 16) ∷ []) in
    ap (take (length (nibbles (bs ++ x ∷ [])) - 1)) whole
    ∙ take-append-le (length (nibbles (bs ++ x ∷ [])) - 1) (nibbles bs ++ (x / 16) ∷ []) ((x % 16) ∷ []) (omega arith)
    ∙ take_all (length (nibbles (bs ++ x ∷ [])) - 1) (nibbles bs ++ (x / 16) ∷ []) (omega arith)

-- a nibble pushed behind an even count is the high half of a new byte
pub unpacked-push_even : (bs : List ℕ) (odd : Bool) (n : ℕ) → odd ≡ false → n < 16 → unpacked (bs ++ (n * 16) ∷ []) true ≡ unpacked bs odd ++ n ∷ []
unpacked-push_even bs true n e lt = cc
unpacked-push_even bs false n e lt =
    let half : n * 16 / 16 ≡ n = omega arith in
    unpacked-append_half bs (n * 16) ∙ ap (λ h. nibbles bs ++ h ∷ []) half

-- the last byte's place
-- bytes that aren't empty are all but the last, and the last
pub front_and_last : (bs : List ℕ) → 0 < length bs → bs ≡ take (length bs - 1) bs ++ get_or bs (length bs - 1) 0 ∷ []
front_and_last bs lt =
    sym (take_all (length bs - 1 + 1) bs (omega arith)) ∙ take_more bs (length bs - 1) 0 (omega arith)

-- to write the last byte is to join it to all but the last
set-last : (bs : List ℕ) (y : ℕ) → 0 < length bs → set bs (length bs - 1) y ≡ take (length bs - 1) bs ++ y ∷ []
set-last bs y lt =
    sym (take_all (length bs - 1 + 1) (set bs (length bs - 1) y) (omega (arith, length-set bs (length bs - 1) y)))
    ∙ take_more_set bs (length bs - 1) y (omega arith)

-- a list filled again from a slice of it with one item written has that item written
pub refill-set : (xs : List ℕ) (i y : ℕ) → refill (length xs) xs (set xs i y) ≡ set xs i y
refill-set xs i y =
    rw (drop_all (length (set xs i y)) xs (omega (arith, length-set xs i y)), append-nil)
    (take_all (length xs) (set xs i y) (omega (arith, length-set xs i y)))

-- the unused half of the last byte takes one more nibble
pub nibbles-push_odd : (bs : List ℕ) (odd : Bool) (n : ℕ) → odd ≡ true → IsPadded bs odd → n < 16
    → nibbles (refill (length bs) bs (set bs (length bs - 1) (get_or bs (length bs - 1) 0 + n))) ≡ unpacked bs odd ++ n ∷ []
nibbles-push_odd bs false n e p lt = cc
nibbles-push_odd bs true n e p lt =
    let x = get_or bs (length bs - 1) 0 in
    let init = take (length bs - 1) bs in
    let zero : x % 16 ≡ 0 = p.1 in
    let high : (x + n) / 16 ≡ x / 16 = omega arith in
    let low : (x + n) % 16 ≡ n = omega arith in
    ap nibbles (refill-set bs (length bs - 1) (x + n) ∙ set-last bs (x + n) p.0)
    ∙ nibbles-append init ((x + n) ∷ [])
    ∙ ap (λ h. nibbles init ++ h ∷ ((x + n) % 16) ∷ []) high
    ∙ ap (λ h. nibbles init ++ (x / 16) ∷ h ∷ []) low
    ∙ sym (append_assoc (nibbles init) ((x / 16) ∷ []) (n ∷ []))
    ∙ ap (λ t. t ++ n ∷ []) (sym (unpacked-append_half init x))
    ∙ ap (λ t. unpacked t true ++ n ∷ []) (sym (front_and_last bs p.0))

-- an odd list and a zero are the nibbles of its bytes
pub nibbles-padded : (bs : List ℕ) → IsPadded bs true → nibbles bs ≡ unpacked bs true ++ 0 ∷ []
nibbles-padded bs p =
    let n : length (nibbles bs) ≡ 2 * length bs = length-nibbles bs in
    let zero : get_or (nibbles bs) (length (nibbles bs) - 1) 0 ≡ 0 =
    get_or-nibbles_odd bs (length bs - 1) (length (nibbles bs) - 1) (omega (arith, p.0)) ∙ p.1 in
    sym (take_all (length (nibbles bs) - 1 + 1) (nibbles bs) (omega arith))
    ∙ take_more (nibbles bs) (length (nibbles bs) - 1) 0 (omega (arith, p.0))
    ∙ ap (λ h. unpacked bs true ++ h ∷ []) zero

-- so the bytes and the flag follow from the list
-- packed lists with the same flag and the same nibbles have the same bytes
same-bytes : (a b : List ℕ) (odd : Bool) → IsPadded a odd → IsPadded b odd → unpacked a odd ≡ unpacked b odd → a ≡ b
same-bytes a b false p q e = nibbles-injective a b e
same-bytes a b true p q e =
    nibbles-injective a b (nibbles-padded a p ∙ ap (λ t. t ++ 0 ∷ []) e ∙ sym (nibbles-padded b q))

-- packed lists with the same nibbles have the same flag
same-flag : (a b : List ℕ) (g h : Bool) → IsPadded a g → IsPadded b h → unpacked a g ≡ unpacked b h → g ≡ h
same-flag a b false false p q e = refl
same-flag a b true true p q e = refl
same-flag a b false true p q e = absurd (omega (arith, ap length e, length-unpacked_even a false refl, length-unpacked_odd b true q refl))
same-flag a b true false p q e = absurd (omega (arith, ap length e, length-unpacked_odd a true p refl, length-unpacked_even b false refl))

-- where the flags agree the bytes decide
eq-bytes : (a b : List ℕ) (odd : Bool) → IsPadded a odd → IsPadded b odd
    → pointwise nat_eq a b ≡ pointwise nat_eq (unpacked a odd) (unpacked b odd)
eq-bytes a b odd p q = equal_tests (pointwise nat_eq a b) (pointwise nat_eq (unpacked a odd) (unpacked b odd))
    (λ s. (bytes_eq-Decides (unpacked a odd) (unpacked b odd)).1 (ap (λ t. unpacked t odd) ((bytes_eq-Decides a b).0 s)))
    (λ s. (bytes_eq-Decides a b).1 (same-bytes a b odd p q ((bytes_eq-Decides (unpacked a odd) (unpacked b odd)).0 s)))

-- where the flags agree, the test of two lists' bytes is that of their nibbles
pub eq-same_flag : (a b : List ℕ) (g h : Bool) → IsPadded a g → IsPadded b h → beq g h ≡ true
    → pointwise nat_eq a b ≡ pointwise nat_eq (unpacked a g) (unpacked b h)
eq-same_flag a b false true p q e = cc
eq-same_flag a b true false p q e = cc
eq-same_flag a b false false p q e = eq-bytes a b false p q
eq-same_flag a b true true p q e = eq-bytes a b true p q

-- and where they don't the lists differ
-- where the flags differ, the test of two lists' nibbles fails as that of the flags does
pub eq-other_flag : (a b : List ℕ) (g h : Bool) → IsPadded a g → IsPadded b h → beq g h ≡ false
    → beq g h ≡ pointwise nat_eq (unpacked a g) (unpacked b h)
eq-other_flag a b g h p q e = equal_tests (beq g h) (pointwise nat_eq (unpacked a g) (unpacked b h))
    (λ s. cc)
    (λ s. flags g h (same-flag a b g h p q ((bytes_eq-Decides (unpacked a g) (unpacked b h)).0 s)))
  where
    flags : (g h : Bool) → g ≡ h → beq g h ≡ true
    flags false false e = refl
    flags true true e = refl
    flags false true e = cc
    flags true false e = cc
