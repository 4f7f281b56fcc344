-- On which side of a search a code lies.
use Rattle.std.proofs.Common.{ltb, ◌≡◌, ◌≢◌, ℕ, ◌<◌, ◌≤◌, inl, inr, Bool, true, false, ◌||◌, List, length, take, get_or, refl, sym, ap, subst, ◌∙◌, arith}
use Rattle.std.proofs.lemmas.Bool.{le-ltb, lt-ltb}
use Rattle.std.proofs.lemmas.List.{get_or_append_left, length-take-le, take-take, take_all}
use Rattle.std.specs.Cmp.{nat_cmp_is}
use Rattle.std.specs.Ordering.{is_lt, nat_cmp}
use Rattle.std.specs.declared.cmp.Ordering.TheVariants.{Less, Equal, Greater}
use Rattle.radix_keys.proofs.KeyLemmas.Order.{three_ways}
use Rattle.radix_keys.proofs.NibbleLemmas.Comparing.{compare_apart}
use Rattle.nibble_map.specs.Lists.{IsBefore, IsPrefix, is_prefix}
use Rattle.nibble_map.proofs.ListLemmas.Parted.{prefix_by_test, prefix_itself}
use Rattle.nibble_map.proofs.TreeLemmas.SomePrefixes.{before_through}
use Rattle.encoded_keys.specs.Codes.{is_before, is_in_front, IsSide}
use Rattle.encoded_keys.specs.Heads.{bound_of, head_in, AreNibbles}
use Rattle.encoded_keys.proofs.CodeLemmas.Heads.{before_by_head, not_before_by_head, not_until_by_head, until_by_head, until_by_less}
use Rattle.encoded_keys.proofs.CodeLemmas.Links.{prefix_is_taken}
use Rattle.encoded_keys.proofs.CodeLemmas.Order.{before_passes, before_passes_down, begun_not_before, before_by_test, between_begins, prefix_before, taken_begins, until_by_before, until_by_prefix, until_passes_down}

-- what comes before a code in front is in front
pub front_passes_down : (t : Bool) (q x y : List ℕ) → IsBefore x y → is_in_front t q y ≡ true → is_in_front t q x ≡ true
front_passes_down false q = before_passes_down q
front_passes_down true q = until_passes_down q

-- a code whose first nibbles are less is in front
pub front_by_less : (t : Bool) (c q : List ℕ) → AreNibbles 15 q → head_in c < bound_of t q → is_in_front t q c ≡ true
front_by_less false = before_by_head
front_by_less true = until_by_less

-- and one whose first nibbles are more isn't
pub behind_by_more : (t : Bool) (c q : List ℕ) → AreNibbles 15 c → bound_of t q < head_in c → is_in_front t q c ≡ false
behind_by_more false = not_before_by_head
behind_by_more true = not_until_by_head

-- where they are the same, all of a short list's nibbles are among them
pub side_of_short : (t : Bool) (c q : List ℕ) → t ≡ true → length q ≤ 15 → AreNibbles 15 q → head_in c ≤ bound_of t q → true ≡ is_in_front t q c
side_of_short false c q e short h le = cc
side_of_short true c q e short h le = sym (until_by_head c q short h le)

-- a code that begins with the list is in front where the search is one through it
pub side_of_begun : (t : Bool) (c q : List ℕ) → IsPrefix q c → t ≡ is_in_front t q c
side_of_begun false c q p = by (is_before c q) refl
  where
    by : (b : Bool) → is_before c q ≡ b → false ≡ is_before c q
    by false e = sym e
    by true e = absurd (begun_not_before q c p (before_by_test c q e))
side_of_begun true c q p = sym (until_by_prefix c q p)

-- a code that the list goes on from is in front
pub side_of_prefix : (t : Bool) (c q : List ℕ) → IsBefore c q → true ≡ is_in_front t q c
side_of_prefix false c q b = sym (before_passes c q b)
side_of_prefix true c q b = sym (until_by_before c q b)

-- a list whose first nibbles are all of a shorter one goes on from it
pub goes_on : (c q : List ℕ) (n : ℕ) → take n c ≡ take n q → length c ≤ n → n < length q → IsBefore c q
goes_on c q n same all more = elim (prefix_before c q (subst (λ l. IsPrefix l q) (sym same ∙ take_all n c all) (taken_begins n q))) [
  | inl e ↦ absurd (let l = ap length e in omega (arith, l, all, more))
  | inr b ↦ b
]

-- a list all of whose nibbles are the first of a code begins it
pub begun : (c q : List ℕ) (n : ℕ) → take n c ≡ take n q → length q ≤ n → IsPrefix q c
begun c q n same all = subst (λ l. IsPrefix l c) (same ∙ take_all n q all) (taken_begins n c)

-- the first nibbles that differ tell the side
pub side_by_nibble : (t : Bool) (c q : List ℕ) (n : ℕ) → n < length c → n < length q → take n c ≡ take n q → get_or c n 0 ≢ get_or q n 0
    → ltb (get_or c n 0) (get_or q n 0) ≡ is_in_front t q c
side_by_nibble t c q n l m same apart = elim (three_ways (get_or c n 0) (get_or q n 0)) [
  | inl lt ↦ lt-ltb _ _ lt ∙ side_of_prefix t c q (before_by_test c q (ap is_lt (sym (nat_cmp_is _ _ Less lt ∙ compare_apart n c q l m same apart))))
  | inr (inl e) ↦ absurd (apart e)
  | inr (inr gt) ↦ le-ltb _ _ (omega (arith, gt)) ∙ behind t (ap is_lt (sym (nat_cmp_is _ _ Greater gt ∙ compare_apart n c q l m same apart)))
]
  where
    no_prefix : (b : Bool) → is_prefix q c ≡ b → is_prefix q c ≡ false
    no_prefix false e = e
    no_prefix true e = let p = prefix_by_test q c e in
        absurd (apart (ap (λ z. get_or z n 0) p.1 ∙ get_or_append_left q p.0 0 n m))

    behind : (t : Bool) → is_before c q ≡ false → false ≡ is_in_front t q c
    behind false e = sym e
    behind true e = sym (both _ _ e (no_prefix _ refl))
      where
        both : (a b : Bool) → a ≡ false → b ≡ false → a || b ≡ false
        both false b h k = k
        both true b h k = h

-- a code in front is on the lesser side
pub less_side : (t : Bool) (q c : List ℕ) → is_in_front t q c ≡ true → IsSide t q c Less
less_side t q c e = record { front = sym e; found = λ s. absurd (cc s); apart = λ s. absurd (cc s) }

-- another one on the greater, unless it is the list
pub greater_side : (t : Bool) (q c : List ℕ) → is_in_front t q c ≡ false → (t ≡ false → c ≡ q → ⊥) → IsSide t q c Greater
greater_side t q c e other = record { front = sym e; found = λ s. absurd (cc s); apart = λ s. other }

-- the list itself is found
pub equal_side : (t : Bool) (q c : List ℕ) → t ≡ false → c ≡ q → IsSide t q c Equal
equal_side t q c e s = record {
  front = sym e ∙ side_of_begun t c q (subst (IsPrefix q) (sym s) (prefix_itself q));
  found = λ _. (e, s);
  apart = λ n. absurd (cc n);
}

-- two numbers that differ tell the side, where they do so of the one in front
pub side_by_numbers : (t : Bool) (q c : List ℕ) (a b : ℕ) → ltb a b ≡ is_in_front t q c → (a ≡ b → ⊥) → (t ≡ false → c ≡ q → a ≡ b) → IsSide t q c (nat_cmp a b)
side_by_numbers t q c a b front apart same = elim (three_ways a b) [
  | inl lt ↦ subst (IsSide t q c) (nat_cmp_is a b Less lt) (less_side t q c (sym front ∙ lt-ltb a b lt))
  | inr (inl e) ↦ absurd (apart e)
  | inr (inr gt) ↦ subst (IsSide t q c) (nat_cmp_is a b Greater gt) (greater_side t q c (sym front ∙ le-ltb a b (omega (arith, gt))) (λ f s. apart (same f s)))
]

-- a search that isn't one through the list compares with its head
pub plain_bound : (t : Bool) (q : List ℕ) → t ≡ false → bound_of t q ≡ head_in q
plain_bound false q e = refl
plain_bound true q e = absurd (cc e)

-- a list between two others that agree with q in their first nibbles does so too
pub between_agrees : (n : ℕ) (x y z q : List ℕ) → n ≤ length q → IsBefore x y → IsBefore y z → take n x ≡ take n q → take n z ≡ take n q → take n y ≡ take n q
between_agrees n x y z q l b c first last =
    let r = take n q in
    let front : IsPrefix r x = subst (λ s. IsPrefix s x) first (taken_begins n x) in
    let back : IsPrefix r z = subst (λ s. IsPrefix s z) last (taken_begins n z) in
    let before : IsBefore r y = elim (prefix_before r x front) [
      | inl e ↦ subst (λ s. IsBefore s y) (sym e) b
      | inr h ↦ before_through r x y h b
    ] in
    let count : length r ≡ n = length-take-le n q l in
    subst (λ k. take k y ≡ r) count (prefix_is_taken r y (between_begins r y z back before c))

-- lists that agree agree in fewer nibbles
pub agree_less : (n m : ℕ) (x q : List ℕ) → n ≤ m → take m x ≡ take m q → take n x ≡ take n q
agree_less n m x q l e = sym (take-take n m x l) ∙ ap (take n) e ∙ take-take n m q l
