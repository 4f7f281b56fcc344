-- Packed lists that are cut in two and joined.
use Rattle.std.proofs.Common.{◌≡◌, ℕ, ◌+◌, ◌-◌, ◌*◌, ◌/◌, ◌%◌, ◌<◌, ◌≤◌, List, [], ◌∷◌, ◌++◌, length, get_or, set, take, drop, Bool, true, false, refl, arith, sym, ◌∙◌, ap, append_assoc}
use Rattle.std.proofs.Math.Seq.{get_or-append_seam, take-append-add, take-set-lt}
use Rattle.std.proofs.lemmas.List.{drop-append-le, get_or-drop, length-append, length-drop, take-append-le, take_more_set}
use Rattle.std.specs.List.{refill}
use Rattle.nibble_map.specs.Nibbles.{nibbles}
use Rattle.radix_keys.specs.Distinct.{append-split}
use Rattle.radix_keys.specs.Packing.{unpacked, IsPadded}
use Rattle.radix_keys.proofs.NibbleLemmas.Bytes.{length-nibbles, nibbles-append, take-nibbles_even, take-nibbles_odd, drop-nibbles_even, drop-nibbles_odd}
use Rattle.radix_keys.proofs.NibbleLemmas.Packing.{length-unpacked_odd, length-unpacked_even, front_and_last, nibbles-padded, unpacked-push_even, refill-set, unpacked-append_half}

-- lists with one more item each
-- lists that are equal with one item more each are equal without it
fronts_are_equal : (xs ys : List ℕ) (x y : ℕ) → xs ++ x ∷ [] ≡ ys ++ y ∷ [] → xs ≡ ys
fronts_are_equal xs ys x y e =
    (append-split xs ys (x ∷ []) (y ∷ []) (omega (arith, ap length e, length-append xs (x ∷ []), length-append ys (y ∷ []))) e).0

-- a packed list is the front of its bytes' nibbles
take-unpacked : (bs : List ℕ) (odd : Bool) (i : ℕ) → IsPadded bs odd → i ≤ length (unpacked bs odd)
    → take i (nibbles bs) ≡ take i (unpacked bs odd)
take-unpacked bs false i p le = refl
take-unpacked bs true i p le = ap (take i) (nibbles-padded bs p) ∙ take-append-le i (unpacked bs true) (0 ∷ []) le

-- a packed list before an even place is the nibbles of the bytes before it
pub nibbles-take_even : (bs : List ℕ) (odd : Bool) (i : ℕ) → IsPadded bs odd → i % 2 ≡ 0 → i ≤ length (unpacked bs odd)
    → nibbles (take (i / 2) bs) ≡ take i (unpacked bs odd)
nibbles-take_even bs odd i p e le = sym (take-nibbles_even bs (i / 2) i (omega arith)) ∙ take-unpacked bs odd i p le

-- the byte that is cut keeps its high half alone
-- a packed list before an odd place ends with a byte of which the high half counts
pub unpacked-take_odd : (bs : List ℕ) (odd : Bool) (i b : ℕ) → IsPadded bs odd → i % 2 ≡ 1 → i ≤ length (unpacked bs odd) → i / 2 < length bs → b ≡ get_or bs (i / 2) 0
    → unpacked (take (i / 2) bs ++ (b - b % 16) ∷ []) true ≡ take i (unpacked bs odd)
unpacked-take_odd bs odd i b p e le lt same =
    let half : (b - b % 16) / 16 ≡ b / 16 = omega arith in
    unpacked-append_half (take (i / 2) bs) (b - b % 16)
    ∙ ap (λ h. nibbles (take (i / 2) bs) ++ h ∷ []) (half ∙ ap (λ t. t / 16) same)
    ∙ sym (take-nibbles_odd bs (i / 2) i (omega arith) lt)
    ∙ take-unpacked bs odd i p le

-- the last byte of a list of k + 1 bytes is written
-- the first k + 1 bytes with byte k written are the first k, and what is written
pub refill-set_cut : (bs ts : List ℕ) (k y : ℕ) → ts ≡ take (k + 1) bs → k < length bs → refill (length ts) ts (set ts k y) ≡ take k bs ++ y ∷ []
refill-set_cut bs ts k y e lt = rw e
    (refill-set (take (k + 1) bs) k y ∙ sym (take-set-lt (k + 1) bs k y (omega arith)) ∙ take_more_set bs k y lt)

-- bytes that end with a byte whose low half is zero may hold an odd count
pub padded-append : (bs : List ℕ) (y : ℕ) → y % 16 ≡ 0 → IsPadded (bs ++ y ∷ []) true
padded-append bs y e =
    let n : length (bs ++ y ∷ []) ≡ length bs + 1 = length-append bs (y ∷ []) in
    let last : length (bs ++ y ∷ []) - 1 ≡ length bs = omega arith in
    (omega arith, ap (λ b. b % 16) (ap (λ j. get_or (bs ++ y ∷ []) j 0) last ∙ get_or-append_seam bs y [] 0) ∙ e)

-- from an even place on
-- the bytes from an even place on leave their last half unused where all bytes do
pub padded-drop : (bs : List ℕ) (odd : Bool) (i : ℕ) → IsPadded bs odd → i % 2 ≡ 0 → i ≤ length (unpacked bs odd) → IsPadded (drop (i / 2) bs) odd
padded-drop bs false i p e le = tt
padded-drop bs true i p e le =
    let n : length (drop (i / 2) bs) ≡ length bs - i / 2 = length-drop (i / 2) bs in
    let count = length-unpacked_odd bs true p refl in
    let last : i / 2 + (length (drop (i / 2) bs) - 1) ≡ length bs - 1 = omega arith in
    (omega arith, ap (λ b. b % 16) (get_or-drop (i / 2) bs (length (drop (i / 2) bs) - 1) 0 ∙ ap (λ j. get_or bs j 0) last) ∙ p.1)

-- a packed list from an even place on is packed in the bytes from it on
pub unpacked-drop_even : (bs : List ℕ) (odd : Bool) (i : ℕ) → IsPadded bs odd → i % 2 ≡ 0 → i ≤ length (unpacked bs odd)
    → unpacked (drop (i / 2) bs) odd ≡ drop i (unpacked bs odd)
unpacked-drop_even bs false i p e le = sym (drop-nibbles_even bs (i / 2) i (omega arith))
unpacked-drop_even bs true i p e le =
    fronts_are_equal (unpacked (drop (i / 2) bs) true) (drop i (unpacked bs true)) 0 0
    (sym (nibbles-padded (drop (i / 2) bs) (padded-drop bs true i p e le))
    ∙ sym (drop-nibbles_even bs (i / 2) i (omega arith))
    ∙ ap (drop i) (nibbles-padded bs p)
    ∙ drop-append-le i (unpacked bs true) (0 ∷ []) le)

-- what an odd place leaves of an odd list is whole bytes
pub nibbles-drop_odd_odd : (bs : List ℕ) (odd : Bool) (i last : ℕ) (out : List ℕ) → IsPadded bs odd → odd ≡ true → i % 2 ≡ 1 → i ≤ length (unpacked bs odd)
    → nibbles out ++ last ∷ [] ≡ (get_or bs (i / 2) 0 % 16) ∷ nibbles (drop (i / 2 + 1) bs) → nibbles out ≡ drop i (unpacked bs odd)
nibbles-drop_odd_odd bs false i last out p o e le s = cc
nibbles-drop_odd_odd bs true i last out p o e le s =
    fronts_are_equal (nibbles out) (drop i (unpacked bs true)) last 0
    (s
    ∙ sym (drop-nibbles_odd bs (i / 2) i (omega arith) (omega (arith, length-unpacked_odd bs true p refl)))
    ∙ ap (drop i) (nibbles-padded bs p)
    ∙ drop-append-le i (unpacked bs true) (0 ∷ []) le)

-- and of an even list whole bytes and a half
-- what an odd place leaves of an even list is whole bytes and a half
pub unpacked-drop_odd_even : (bs : List ℕ) (odd : Bool) (i last : ℕ) (out : List ℕ) → odd ≡ false → i % 2 ≡ 1 → i ≤ length (unpacked bs odd) → last < 16
    → nibbles out ++ last ∷ [] ≡ (get_or bs (i / 2) 0 % 16) ∷ nibbles (drop (i / 2 + 1) bs)
    → unpacked (out ++ (last * 16) ∷ []) true ≡ drop i (unpacked bs odd)
unpacked-drop_odd_even bs true i last out o e le lt s = cc
unpacked-drop_odd_even bs false i last out o e le lt s =
    unpacked-push_even out false last refl lt ∙ s
    ∙ sym (drop-nibbles_odd bs (i / 2) i (omega arith) (omega (arith, length-unpacked_even bs false refl)))

-- whole bytes take any list behind them
pub unpacked-append_even : (a b : List ℕ) (g h : Bool) → g ≡ false → IsPadded b h → unpacked (a ++ b) h ≡ unpacked a g ++ unpacked b h
unpacked-append_even a b true h e q = cc
unpacked-append_even a b false false e q = nibbles-append a b
unpacked-append_even a b false true e q =
    let n : length (nibbles (a ++ b)) - 1 ≡ length (nibbles a) + (length (nibbles b) - 1) =
    omega (arith, length-nibbles (a ++ b), length-nibbles a, length-nibbles b, length-append a b, q.0) in
    ap (λ m. take m (nibbles (a ++ b))) n
    ∙ ap (take (length (nibbles a) + (length (nibbles b) - 1))) (nibbles-append a b)
    ∙ take-append-add (nibbles a) (nibbles b) (length (nibbles b) - 1)

-- an odd list is the nibbles of all its bytes but one, and a half
unpacked-odd : (bs : List ℕ) → IsPadded bs true → unpacked bs true ≡ nibbles (take (length bs - 1) bs) ++ (get_or bs (length bs - 1) 0 / 16) ∷ []
unpacked-odd bs p =
    ap (λ t. unpacked t true) (front_and_last bs p.0) ∙ unpacked-append_half (take (length bs - 1) bs) (get_or bs (length bs - 1) 0)

-- the bytes moved by half a byte hold the first list, and then the second list's bytes
nibbles-shifted : (bs b out : List ℕ) (last : ℕ) → IsPadded bs true
    → nibbles out ++ last ∷ [] ≡ nibbles (take (length bs - 1) bs) ++ (get_or bs (length bs - 1) 0 / 16) ∷ nibbles b
    → nibbles out ++ last ∷ [] ≡ unpacked bs true ++ nibbles b
nibbles-shifted bs b out last p s =
    s ∙ sym (append_assoc (nibbles (take (length bs - 1) bs)) ((get_or bs (length bs - 1) 0 / 16) ∷ []) (nibbles b))
    ∙ ap (λ t. t ++ nibbles b) (sym (unpacked-odd bs p))

-- an odd list joined to an odd list is whole bytes
pub nibbles-append_odd_odd : (bs b out : List ℕ) (g h : Bool) (last : ℕ) → g ≡ true → h ≡ true → IsPadded bs g → IsPadded b h
    → nibbles out ++ last ∷ [] ≡ nibbles (take (length bs - 1) bs) ++ (get_or bs (length bs - 1) 0 / 16) ∷ nibbles b
    → nibbles out ≡ unpacked bs g ++ unpacked b h
nibbles-append_odd_odd bs b out false h last e f p q s = cc
nibbles-append_odd_odd bs b out true false last e f p q s = cc
nibbles-append_odd_odd bs b out true true last e f p q s =
    fronts_are_equal (nibbles out) (unpacked bs true ++ unpacked b true) last 0
    (nibbles-shifted bs b out last p s
    ∙ ap (λ t. unpacked bs true ++ t) (nibbles-padded b q)
    ∙ sym (append_assoc (unpacked bs true) (unpacked b true) (0 ∷ [])))

-- an odd list joined to an even list is whole bytes and a half
pub unpacked-append_odd_even : (bs b out : List ℕ) (g h : Bool) (last : ℕ) → g ≡ true → h ≡ false → IsPadded bs g → last < 16
    → nibbles out ++ last ∷ [] ≡ nibbles (take (length bs - 1) bs) ++ (get_or bs (length bs - 1) 0 / 16) ∷ nibbles b
    → unpacked (out ++ (last * 16) ∷ []) g ≡ unpacked bs g ++ unpacked b h
unpacked-append_odd_even bs b out false h last e f p lt s = cc
unpacked-append_odd_even bs b out true true last e f p lt s = cc
unpacked-append_odd_even bs b out true false last e f p lt s = unpacked-push_even out false last refl lt ∙ nibbles-shifted bs b out last p s

-- the count tells the flag
-- where the count of a packed list is odd, its flag says so
pub flag_is_odd : (bs : List ℕ) (odd : Bool) → length (unpacked bs odd) % 2 ≡ 1 → odd ≡ true
flag_is_odd bs true e = refl
flag_is_odd bs false e = absurd (omega (arith, length-unpacked_even bs false refl))
