-- The bytes of parts tell the parts.
use Rattle.std.specs.Prelude.{◌≡◌, ◌≢◌, ◌==◌, ℕ, suc, ◌<◌, List, [], ◌∷◌, ◌++◌, length, Bool, true, false, nat_eq, refl}
use Rattle.std.specs.Cmp.Lexicographic.{pointwise, pointwise_decides, bytes_decides}
use Rattle.std.specs.List.{slice_split, onto_first, join_with_byte}
use Rattle.std.proofs.Common.{arith, cond, get_or, ap, sym, ◌∙◌, append_assoc}
use Rattle.std.proofs.lemmas.Bool.{ne_eqb}
use Rattle.std.proofs.lemmas.List.{append-nil, length-append, take_at}
use Rattle.std.proofs.lemmas.List.Elements.{All-head, All-tail}
use Rattle.std.proofs.lemmas.List.Splits.{slice_split-cons_yes, slice_split-cons_no, length-slice_split}
use Rattle.nibble_map.specs.Nibbles.{nibbles}
use Rattle.radix_keys.specs.Distinct.{nibbles-injective}
use Rattle.radix_keys.specs.Parts.{IsPart, AreParts, part_bytes, parts_of}

-- a byte in front of the first of some parts is in front of the first where more follow
onto_first-append : (x : ℕ) (ps qs : List (List ℕ)) → 0 < length ps → onto_first x (ps ++ qs) ≡ onto_first x ps ++ qs
onto_first-append x [] qs lt = absurd (omega (arith, lt))
onto_first-append x (p ∷ ps) qs lt = refl

-- the parts on both sides of a byte at which bytes are cut
pub slice_split-append : (p : ℕ → Bool) (xs : List ℕ) (y : ℕ) (ys : List ℕ) → p y ≡ true
    → slice_split p (xs ++ y ∷ ys) ≡ slice_split p xs ++ slice_split p ys
slice_split-append p [] y ys h = slice_split-cons_yes p y ys h
slice_split-append p (x ∷ xs) y ys h = by (p x) (slice_split-append p xs y ys h)
  where
    by : (b : Bool) → slice_split p (xs ++ y ∷ ys) ≡ slice_split p xs ++ slice_split p ys
        → cond b ([] ∷ slice_split p (xs ++ y ∷ ys)) (onto_first x (slice_split p (xs ++ y ∷ ys)))
        ≡ cond b ([] ∷ slice_split p xs) (onto_first x (slice_split p xs)) ++ slice_split p ys
    by true rest = ap (λ t. [] ∷ t) rest
    by false rest = ap (onto_first x) rest ∙ onto_first-append x (slice_split p xs) (slice_split p ys) (omega (arith, length-slice_split p xs))

-- bytes that lack a separator are one part
pub uncut : (s : ℕ) (xs : List ℕ) → ((k : ℕ) → k < length xs → get_or xs k 0 ≢ s) → slice_split (λ b. b == s) xs ≡ xs ∷ []
uncut s [] none = refl
uncut s (x ∷ xs) none =
    slice_split-cons_no (λ b. b == s) x xs (ne_eqb x s (none 0 (omega arith)))
    ∙ ap (onto_first x) (uncut s xs (λ k lt. none (suc k) (omega (arith, lt))))

-- a part is cut at no 0
uncut_part : (xs : List ℕ) → IsPart xs → slice_split (λ x. x == 0) xs ≡ xs ∷ []
uncut_part xs h = uncut 0 xs (λ k lt e. h (k, lt, e))

-- the bytes of parts are the parts with a 0 between each two, and a 0
part_bytes-joined : (a : List ℕ) (ps : List (List ℕ)) → part_bytes (a ∷ ps) ≡ join_with_byte 0 (a ∷ ps) ++ 0 ∷ []
part_bytes-joined a [] = append-nil (a ++ 0 ∷ [])
part_bytes-joined a (b ∷ ps) =
    let rest = join_with_byte 0 (b ∷ ps) in
    ap (λ t. (a ++ 0 ∷ []) ++ t) (part_bytes-joined b ps)
    ∙ append_assoc a (0 ∷ []) (rest ++ 0 ∷ [])
    ∙ sym (append_assoc a (0 ∷ rest) (0 ∷ []))

-- parts with a 0 between each two are cut into these parts
slice_split-joined : (a : List ℕ) (ps : List (List ℕ)) → AreParts (a ∷ ps) → slice_split (λ x. x == 0) (join_with_byte 0 (a ∷ ps)) ≡ a ∷ ps
slice_split-joined a [] h = uncut_part a (All-head IsPart a [] h)
slice_split-joined a (b ∷ ps) h =
    let rest = join_with_byte 0 (b ∷ ps) in
    slice_split-append (λ x. x == 0) a 0 rest refl
    ∙ ap (λ t. t ++ slice_split (λ x. x == 0) rest) (uncut_part a (All-head IsPart a (b ∷ ps) h))
    ∙ ap (λ t. a ∷ t) (slice_split-joined b ps (All-tail IsPart a (b ∷ ps) h))

-- the parts of bytes that a 0 ends are what those before it are cut into
parts_of-ended : (xs : List ℕ) → parts_of (xs ++ 0 ∷ []) ≡ slice_split (λ x. x == 0) xs
parts_of-ended [] = refl
parts_of-ended (x ∷ xs) =
    ap (slice_split (λ x. x == 0)) (take_at (x ∷ xs) (0 ∷ []) (length (xs ++ 0 ∷ [])) (omega (arith, length-append xs (0 ∷ []))))

-- parts are the parts of their bytes
pub parts_of-part_bytes : (ps : List (List ℕ)) → AreParts ps → parts_of (part_bytes ps) ≡ ps
parts_of-part_bytes [] h = refl
parts_of-part_bytes (a ∷ ps) h = ap parts_of (part_bytes-joined a ps) ∙ parts_of-ended (join_with_byte 0 (a ∷ ps)) ∙ slice_split-joined a ps h

-- lists of parts with one encoding are equal
pub parts-distinct : (p q : List (List ℕ)) → AreParts p → AreParts q → nibbles (part_bytes p) ≡ nibbles (part_bytes q)
    → pointwise (pointwise nat_eq) p q ≡ true
parts-distinct p q h k e =
    (pointwise_decides bytes_decides p q).1
    (sym (parts_of-part_bytes p h) ∙ ap parts_of (nibbles-injective (part_bytes p) (part_bytes q) e) ∙ parts_of-part_bytes q k)
