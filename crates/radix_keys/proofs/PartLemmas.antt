-- Lists of parts: what text is cut into, what their bytes tell, which begin with which, and their order.
use Rattle.std.proofs.Common.{◌≡◌, ◌≢◌, ◌↔◌, ◌==◌, ℕ, zero, suc, ◌+◌, ◌<◌, ◌≤◌, Bool, true, false, cond, List, [], ◌∷◌, ◌++◌, length, get_or, take, drop, filter, refl, arith, sym, ap, subst, ◌∙◌, append_assoc, add-one}
use Rattle.std.proofs.Math.Seq.{drop-cons}
use Rattle.std.proofs.lemmas.Bool.{eq-eqb, ne_eqb}
use Rattle.std.proofs.lemmas.Grind.{flat_map-append}
use Rattle.std.proofs.lemmas.List.{append-nil, length-take, length-drop, get_or-take, get_or-drop, take-append-drop}
use Rattle.std.proofs.lemmas.List.Elements.{All-nil, All-cons, All-head, All-tail, All-push}
use Rattle.std.specs.Cmp.{nat_cmp_is}
use Rattle.std.specs.Cmp.Lexicographic.{pointwise, pointwise_decides, bytes_decides, slice_cmp}
use Rattle.std.specs.List.{slice_split, onto_first}
use Rattle.std.specs.Ordering.{nat_cmp, ordering_then}
use Rattle.std.specs.Prelude.{nat_eq}
use Rattle.std.specs.declared.cmp.Ordering.{Ordering}
use Rattle.std.specs.declared.cmp.Ordering.TheVariants.{Less, Equal, Greater}
use Rattle.nibble_map.specs.Lists.{IsPrefix}
use Rattle.nibble_map.specs.Nibbles.{nibbles}
use Rattle.radix_keys.specs.PartBytes.{slice_split-append, uncut, parts_of-part_bytes}
use Rattle.radix_keys.specs.Parts.{IsPart, AreParts, part_bytes, parts_of, ArePartBytes, IsPartsPrefix, KeepsPartsOrder}
use Rattle.radix_keys.proofs.KeyLemmas.Order.{byte_order}
use Rattle.radix_keys.proofs.KeyLemmas.Prefixes.{nibbles_prefix}

-- bytes are cut where the separator stands
cut_at : (s : ℕ) (xs : List ℕ) (i : ℕ) → i < length xs → get_or xs i 0 ≡ s
    → slice_split (λ b. b == s) xs ≡ slice_split (λ b. b == s) (take i xs) ++ slice_split (λ b. b == s) (drop (i + 1) xs)
cut_at s xs i lt here =
    let rest : drop i xs ≡ get_or xs i 0 ∷ drop (i + 1) xs = drop-cons xs i 0 lt ∙ ap (λ k. get_or xs i 0 ∷ drop k xs) (sym (add-one i)) in
    ap (slice_split (λ b. b == s)) (sym (take-append-drop i xs) ∙ ap (λ t. take i xs ++ t) rest)
    ∙ slice_split-append (λ b. b == s) (take i xs) (get_or xs i 0) (drop (i + 1) xs) (eq-eqb (get_or xs i 0) s here)

-- the first part stands before the first separator
pub cut_first : (s : ℕ) (xs : List ℕ) (i : ℕ) → i < length xs → get_or xs i 0 ≡ s → ((k : ℕ) → k < i → get_or xs k 0 ≢ s)
    → slice_split (λ b. b == s) xs ≡ take i xs ∷ slice_split (λ b. b == s) (drop (i + 1) xs)
cut_first s xs i lt here before =
    let front : slice_split (λ b. b == s) (take i xs) ≡ take i xs ∷ [] =
    uncut s (take i xs) (λ k below e.
    let under : k < i = omega (arith, below, length-take i xs) in
    before k under (sym (get_or-take i xs k 0 under) ∙ e)) in
    cut_at s xs i lt here ∙ ap (λ t. t ++ slice_split (λ b. b == s) (drop (i + 1) xs)) front

-- the last part stands behind the last separator
pub cut_last : (s : ℕ) (xs : List ℕ) (i : ℕ) → i < length xs → get_or xs i 0 ≡ s
    → ((k : ℕ) → i + 1 ≤ k → k < length xs → get_or xs k 0 ≢ s)
    → slice_split (λ b. b == s) xs ≡ slice_split (λ b. b == s) (take i xs) ++ drop (i + 1) xs ∷ []
cut_last s xs i lt here after =
    let back : slice_split (λ b. b == s) (drop (i + 1) xs) ≡ drop (i + 1) xs ∷ [] =
    uncut s (drop (i + 1) xs) (λ k below e.
    after (i + 1 + k) (omega arith) (omega (arith, below, length-drop (i + 1) xs)) (sym (get_or-drop (i + 1) xs k 0) ∙ e)) in
    cut_at s xs i lt here ∙ ap (λ t. slice_split (λ b. b == s) (take i xs) ++ t) back

-- the first byte of a part is not 0
IsPart-head : (x : ℕ) (xs : List ℕ) → IsPart (x ∷ xs) → x ≢ 0
IsPart-head x xs h = λ e. h (0, omega arith, e)

-- what follows a part's first byte is a part
IsPart-tail : (x : ℕ) (xs : List ℕ) → IsPart (x ∷ xs) → IsPart xs
IsPart-tail x xs h = λ c. h (suc c.0, omega (arith, c.1), c.2)

-- a part with another byte than 0 in front is a part
IsPart-cons : (x : ℕ) (xs : List ℕ) → x ≢ 0 → IsPart xs → IsPart (x ∷ xs)
IsPart-cons x xs ne h = λ c. at c.0 c.1 c.2
  where
    at : (k : ℕ) → k < length (x ∷ xs) → get_or (x ∷ xs) k 0 ≡ 0 → ⊥
    at zero lt e = ne e
    at (suc k) lt e = h (k, omega (arith, lt), e)

-- what a part is cut into are parts
pub AreParts-slice_split : (p : ℕ → Bool) (xs : List ℕ) → IsPart xs → AreParts (slice_split p xs)
AreParts-slice_split p [] h = All-cons IsPart [] [] h (All-nil IsPart)
AreParts-slice_split p (x ∷ xs) h = by (p x) (slice_split p xs) (AreParts-slice_split p xs (IsPart-tail x xs h))
  where
    none : IsPart []
    none c = omega (arith, c.1)

    first : (ps : List (List ℕ)) → AreParts ps → AreParts (onto_first x ps)
    first [] all = All-cons IsPart (x ∷ []) [] (IsPart-cons x [] (IsPart-head x xs h) none) all
    first (a ∷ ps) all =
        All-cons IsPart (x ∷ a) ps (IsPart-cons x a (IsPart-head x xs h) (All-head IsPart a ps all)) (All-tail IsPart a ps all)

    by : (b : Bool) (ps : List (List ℕ)) → AreParts ps → AreParts (cond b ([] ∷ ps) (onto_first x ps))
    by true ps all = All-cons IsPart [] ps none all
    by false ps all = first ps all

-- with one more part, kept bytes are those of the parts with one more
pub one_more : (bytes part new : List ℕ) → ArePartBytes bytes → IsPart part → new ≡ (bytes ++ part) ++ 0 ∷ []
    → (parts_of new ≡ parts_of bytes ++ part ∷ []) × ArePartBytes new
one_more bytes part new kept is e =
    let ps = parts_of bytes in
    let all : AreParts (ps ++ part ∷ []) = All-push IsPart ps part kept.parts is in
    let last : part_bytes (ps ++ part ∷ []) ≡ part_bytes ps ++ (part ++ 0 ∷ []) =
    flat_map-append (λ p. p ++ 0 ∷ []) ps (part ∷ []) ∙ ap (λ t. part_bytes ps ++ t) (append-nil (part ++ 0 ∷ [])) in
    let same : new ≡ part_bytes (ps ++ part ∷ []) =
    e ∙ append_assoc bytes part (0 ∷ []) ∙ ap (λ t. t ++ (part ++ 0 ∷ [])) kept.ended ∙ sym last in
    let view : parts_of new ≡ ps ++ part ∷ [] = ap parts_of same ∙ parts_of-part_bytes (ps ++ part ∷ []) all in
    (view, record { ended = same ∙ ap part_bytes (sym view); parts = subst AreParts (sym view) all })

-- there are as many bytes 0 as parts
zeros-part_bytes : (ps : List (List ℕ)) → AreParts ps → length (filter (λ b. b == 0) (part_bytes ps)) ≡ length ps
zeros-part_bytes [] h = refl
zeros-part_bytes (a ∷ ps) h =
    one a (All-head IsPart a ps h) ∙ ap suc (zeros-part_bytes ps (All-tail IsPart a ps h))
  where
    one : (xs : List ℕ) → IsPart xs → length (filter (λ b. b == 0) ((xs ++ 0 ∷ []) ++ part_bytes ps)) ≡ suc (length (filter (λ b. b == 0) (part_bytes ps)))
    one [] is = refl
    one (x ∷ xs) is =
        let rest = filter (λ b. b == 0) ((xs ++ 0 ∷ []) ++ part_bytes ps) in
        ap (λ t. length (cond t (x ∷ rest) rest)) (ne_eqb x 0 (IsPart-head x xs is)) ∙ one xs (IsPart-tail x xs is)

-- kept bytes have as many 0 as there are parts
pub zeros_are_counted : (bytes : List ℕ) → ArePartBytes bytes → length (filter (λ b. b == 0) bytes) ≡ length (parts_of bytes)
zeros_are_counted bytes kept =
    ap (λ xs. length (filter (λ b. b == 0) xs)) kept.ended ∙ zeros-part_bytes (parts_of bytes) kept.parts

-- two tests that hold of each other are one
same_test : (a b : Bool) → (a ≡ true → b ≡ true) → (b ≡ true → a ≡ true) → a ≡ b
same_test true b there back = sym (there refl)
same_test false true there back = back refl
same_test false false there back = refl

-- kept bytes are equal where their parts are
pub equal_bytes : (xs ys : List ℕ) → ArePartBytes xs → ArePartBytes ys
    → pointwise nat_eq xs ys ≡ pointwise (pointwise nat_eq) (parts_of xs) (parts_of ys)
equal_bytes xs ys k l =
    same_test (pointwise nat_eq xs ys) (pointwise (pointwise nat_eq) (parts_of xs) (parts_of ys))
    (λ e. (pointwise_decides bytes_decides (parts_of xs) (parts_of ys)).1 (ap parts_of ((bytes_decides xs ys).0 e)))
    (λ e. (bytes_decides xs ys).1
    (k.ended ∙ ap part_bytes ((pointwise_decides bytes_decides (parts_of xs) (parts_of ys)).0 e) ∙ sym l.ended))

-- the first answer that isn't Equal is the same however they are grouped
ordering_then-assoc : (x y z : Ordering) → ordering_then x (ordering_then y z) ≡ ordering_then (ordering_then x y) z
ordering_then-assoc Less y z = refl
ordering_then-assoc Equal y z = refl
ordering_then-assoc Greater y z = refl

-- two parts that a 0 ends compare as the parts do, and then as what follows
compare_ended : (a b r s : List ℕ) (o : Ordering) → IsPart a → IsPart b → slice_cmp nat_cmp r s ≡ o
    → slice_cmp nat_cmp ((a ++ 0 ∷ []) ++ r) ((b ++ 0 ∷ []) ++ s) ≡ ordering_then (slice_cmp nat_cmp a b) o
compare_ended [] [] r s o h k e = e
compare_ended [] (y ∷ b) r s o h k e =
    let above : y ≢ 0 = IsPart-head y b k in
    rw (sym (nat_cmp_is 0 y Less (omega arith))) refl
compare_ended (x ∷ a) [] r s o h k e =
    let above : x ≢ 0 = IsPart-head x a h in
    rw (sym (nat_cmp_is x 0 Greater (omega arith))) refl
compare_ended (x ∷ a) (y ∷ b) r s o h k e =
    ap (ordering_then (nat_cmp x y)) (compare_ended a b r s o (IsPart-tail x a h) (IsPart-tail y b k) e)
    ∙ ordering_then-assoc (nat_cmp x y) (slice_cmp nat_cmp a b) o

-- lists of parts compare as their bytes do
compare_parts : (p q : List (List ℕ)) → AreParts p → AreParts q
    → slice_cmp nat_cmp (part_bytes p) (part_bytes q) ≡ slice_cmp (slice_cmp nat_cmp) p q
compare_parts [] [] h k = refl
compare_parts [] ([] ∷ q) h k = refl
compare_parts [] ((y ∷ b) ∷ q) h k = refl
compare_parts ([] ∷ p) [] h k = refl
compare_parts ((x ∷ a) ∷ p) [] h k = refl
compare_parts (a ∷ p) (b ∷ q) h k =
    compare_ended a b (part_bytes p) (part_bytes q) (slice_cmp (slice_cmp nat_cmp) p q) (All-head IsPart a p h) (All-head IsPart b q k)
    (compare_parts p q (All-tail IsPart a p h) (All-tail IsPart b q k))

-- kept bytes compare as their parts do
pub compare_kept : (xs ys : List ℕ) → ArePartBytes xs → ArePartBytes ys
    → slice_cmp nat_cmp xs ys ≡ slice_cmp (slice_cmp nat_cmp) (parts_of xs) (parts_of ys)
compare_kept xs ys k l =
    ap (λ t. slice_cmp nat_cmp t ys) k.ended ∙ ap (slice_cmp nat_cmp (part_bytes (parts_of xs))) l.ended
    ∙ compare_parts (parts_of xs) (parts_of ys) k.parts l.parts

-- encodings of lists of parts are in the order of the lists
pub parts_order : KeepsPartsOrder
parts_order = record {
  precedes = λ p q h k lt. byte_order.precedes (part_bytes p) (part_bytes q) (compare_parts p q h k ∙ lt);
}

-- where bytes begin with the same part, the parts are equal, and so is what follows
same_part : (a b r s : List ℕ) → IsPart a → IsPart b → (a ++ 0 ∷ []) ++ r ≡ (b ++ 0 ∷ []) ++ s → (a ≡ b) × (r ≡ s)
same_part [] [] r s h k e = let rest : r ≡ s = cc in (refl, rest)
same_part [] (y ∷ b) r s h k e = let zero_is : 0 ≡ y = cc in absurd (IsPart-head y b k (sym zero_is))
same_part (x ∷ a) [] r s h k e = let is_zero : x ≡ 0 = cc in absurd (IsPart-head x a h is_zero)
same_part (x ∷ a) (y ∷ b) r s h k e =
    let head : x ≡ y = cc in
    let tail : (a ++ 0 ∷ []) ++ r ≡ (b ++ 0 ∷ []) ++ s = cc in
    let rest = same_part a b r s (IsPart-tail x a h) (IsPart-tail y b k) tail in
    ((λ i. head i ∷ rest.0 i), rest.1)

-- where the bytes of parts begin with those of others, the parts do
parts_begin : (p q : List (List ℕ)) → AreParts p → AreParts q → IsPrefix (part_bytes p) (part_bytes q) → IsPartsPrefix p q
parts_begin [] q h k begun = (q, refl)
parts_begin ([] ∷ p) [] h k begun = absurd (omega (arith, ap length begun.1))
parts_begin ((x ∷ a) ∷ p) [] h k begun = absurd (omega (arith, ap length begun.1))
parts_begin (a ∷ p) (b ∷ q) h k begun =
    let split = same_part b a (part_bytes q) (part_bytes p ++ begun.0) (All-head IsPart b q k) (All-head IsPart a p h)
    (begun.1 ∙ append_assoc (a ++ 0 ∷ []) (part_bytes p) begun.0) in
    let rest = parts_begin p q (All-tail IsPart a p h) (All-tail IsPart b q k) (begun.0, split.1) in
    (rest.0, λ i. split.0 i ∷ rest.1 i)

-- an encoding begins with another exactly where the list of parts does
pub parts_prefix : (p q : List (List ℕ)) → AreParts p → AreParts q
    → IsPrefix (nibbles (part_bytes p)) (nibbles (part_bytes q)) ↔ IsPartsPrefix p q
parts_prefix p q h k = (
  λ begun. parts_begin p q h k ((nibbles_prefix (part_bytes p) (part_bytes q)).0 begun),
  λ begun. (nibbles_prefix (part_bytes p) (part_bytes q)).1
      (part_bytes begun.0, ap part_bytes begun.1 ∙ flat_map-append (λ part. part ++ 0 ∷ []) p begun.0),
)
