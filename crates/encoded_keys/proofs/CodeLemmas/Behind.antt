-- What stands in a list behind its first nibbles.
use Rattle.std.proofs.Common.{◌≡◌, ℕ, zero, suc, ◌+◌, ◌-◌, ◌*◌, ◌%◌, ◌<◌, ◌≤◌, Bool, true, false, ◌&&◌, ◌||◌, List, [], ◌∷◌, ◌++◌, length, take, drop, get_or, refl, sym, ap, subst, ◌∙◌, arith}
use Rattle.std.proofs.Math.ListN.{drop_of_length-le}
use Rattle.std.proofs.lemmas.Bool.{eq-eqb}
use Rattle.std.proofs.lemmas.List.{drop-take, get_or-drop, length-drop, take-append-drop}
use Rattle.std.specs.Cmp.{nat_cmp_is}
use Rattle.std.specs.Cmp.Lexicographic.{slice_cmp}
use Rattle.std.specs.Ordering.{is_lt, nat_cmp, ordering_then}
use Rattle.std.specs.declared.cmp.Ordering.TheVariants.{Equal}
use Rattle.nibble_map.specs.Lists.{is_prefix}
use Rattle.nibble_map.specs.Nibbles.{nibbles}
use Rattle.nibble_map.proofs.ListLemmas.Cut.{cons_head, cons_tail}
use Rattle.radix_keys.specs.Packing.{IsPadded, unpacked}
use Rattle.radix_keys.specs.Widths.{length-nibbles}
use Rattle.encoded_keys.specs.Codes.{is_before, is_in_front}

-- the nibbles behind some bytes are those of the bytes behind
nibbles-drop : (s : ℕ) (bs : List ℕ) → nibbles (drop s bs) ≡ drop (2 * s) (nibbles bs)
nibbles-drop zero bs = refl
nibbles-drop (suc s) [] = sym (drop_of_length-le [] (omega arith))
nibbles-drop (suc s) (b ∷ bs) =
    let two : suc (suc (2 * s)) ≡ 2 * suc s = omega arith in
    nibbles-drop s bs ∙ ap (λ n. drop n (nibbles (b ∷ bs))) two

-- the same of packed nibbles
pub unpacked-drop : (bs : List ℕ) (odd : Bool) (s : ℕ) → s < length bs → unpacked (drop s bs) odd ≡ drop (2 * s) (unpacked bs odd)
unpacked-drop bs false s l = nibbles-drop s bs
unpacked-drop bs true s l =
    let m = length (nibbles bs) - 1 - 2 * s in
    let left : length (nibbles (drop s bs)) - 1 ≡ m = omega (arith, l, length-nibbles (drop s bs), length-drop s bs, length-nibbles bs) in
    let all : 2 * s + m ≡ length (nibbles bs) - 1 = omega (arith, l, length-nibbles bs) in
    ap (λ n. take n (nibbles (drop s bs))) left ∙ ap (take m) (nibbles-drop s bs) ∙ sym (drop-take (2 * s) m (nibbles bs))
    ∙ ap (λ n. drop (2 * s) (take n (nibbles bs))) all

-- an unused half stays where bytes in front of it go
pub padded-drop : (bs : List ℕ) (odd : Bool) (s : ℕ) → s < length bs → IsPadded bs odd → IsPadded (drop s bs) odd
padded-drop bs false s l p = tt
padded-drop bs true s l p =
    let last : length bs - 1 ≡ s + (length (drop s bs) - 1) = omega (arith, l, length-drop s bs) in (
      omega (arith, l, length-drop s bs),
      subst (λ b. b % 16 ≡ 0) (ap (λ i. get_or bs i 0) last ∙ sym (get_or-drop s bs (length (drop s bs) - 1) 0)) p.1,
    )

-- the order behind what two lists share is theirs
pub before_behind : (n : ℕ) (c q : List ℕ) → take n c ≡ take n q → n ≤ length q → is_before (drop n c) (drop n q) ≡ is_before c q
before_behind zero c q e l = refl
before_behind (suc n) c [] e l = absurd (omega (arith, l))
before_behind (suc n) [] (b ∷ q) e l = cc e
before_behind (suc n) (a ∷ c) (b ∷ q) e l =
    before_behind n c q (cons_tail e) (omega (arith, l))
    ∙ ap (λ o. is_lt (ordering_then o (slice_cmp nat_cmp c q))) (nat_cmp_is a b Equal (cons_head e))

-- and so is whether one begins the other
prefix_behind : (n : ℕ) (c q : List ℕ) → take n c ≡ take n q → n ≤ length q → is_prefix (drop n q) (drop n c) ≡ is_prefix q c
prefix_behind zero c q e l = refl
prefix_behind (suc n) c [] e l = absurd (omega (arith, l))
prefix_behind (suc n) [] (b ∷ q) e l = cc e
prefix_behind (suc n) (a ∷ c) (b ∷ q) e l =
    prefix_behind n c q (cons_tail e) (omega (arith, l)) ∙ ap (λ t. t && is_prefix q c) (sym (eq-eqb b a (sym (cons_head e))))

-- and which side of a search a code lies on
pub front_behind : (t : Bool) (n : ℕ) (c q : List ℕ) → take n c ≡ take n q → n ≤ length q → is_in_front t (drop n q) (drop n c) ≡ is_in_front t q c
front_behind false n c q e l = before_behind n c q e l
front_behind true n c q e l = ap (λ b. b || is_prefix (drop n q) (drop n c)) (before_behind n c q e l) ∙ ap (λ p. is_before c q || p) (prefix_behind n c q e l)

-- lists that share their first nibbles and what stands behind them are one
pub same_behind : (n : ℕ) (c q : List ℕ) → take n c ≡ take n q → drop n c ≡ drop n q → c ≡ q
same_behind n c q e f = sym (take-append-drop n c) ∙ ap (λ l. l ++ drop n c) e ∙ ap (λ l. take n q ++ l) f ∙ take-append-drop n q
