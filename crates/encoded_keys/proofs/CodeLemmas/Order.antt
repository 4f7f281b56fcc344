-- The order of lists as a test, and what lies between a prefix and the list.
use Rattle.std.proofs.Common.{◌≡◌, ℕ, ◌<◌, ◌≤◌, ◌⊎◌, inl, inr, Bool, true, false, T, ◌||◌, List, [], ◌∷◌, ◌++◌, take, drop, refl, sym, ap, subst, arith}
use Rattle.std.proofs.lemmas.List.{take-append-drop}
use Rattle.radix_keys.proofs.KeyLemmas.Order.{three_ways}
use Rattle.nibble_map.specs.Lists.{IsBefore, IsPrefix, is_prefix}
use Rattle.nibble_map.proofs.MapLemmas.Bridge.{first_of_both, both_hold}
use Rattle.nibble_map.proofs.ListLemmas.Cut.{cons_head, cons_tail, cons_same}
use Rattle.nibble_map.proofs.ListLemmas.Parted.{prefix_by_test, is_prefix_true, prefix_itself}
use Rattle.nibble_map.proofs.ListLemmas.Sorted.{sorted_of_rising, rising_of_sorted}
use Rattle.nibble_map.proofs.TreeLemmas.SomePrefixes.{before_through}
use Rattle.encoded_keys.specs.Codes.{is_before, is_until}

-- of two numbers the first is at most the second where the other way round is absurd
pub at_most : (a b : ℕ) → (b < a → ⊥) → a ≤ b
at_most a b h = elim (three_ways a b) [
  | inl l ↦ omega (arith, l)
  | inr (inl e) ↦ omega (arith, e)
  | inr (inr g) ↦ absurd (h g)
]

-- a test that holds is true
pub true_of : (b : Bool) → T b → b ≡ true
true_of true h = refl
true_of false h = absurd h

-- two lists as a list of entries with nothing at each
abbrev two : List ℕ → List ℕ → List (List ℕ × Unit {0})
two x y = (x, tt {0}) ∷ (y, tt {0}) ∷ []

-- the test passes where x comes before y
pub before_passes : (x y : List ℕ) → IsBefore x y → is_before x y ≡ true
before_passes x y h =
    true_of _ (first_of_both _ _ (first_of_both _ _ (sorted_of_rising (two x y) ((h, tt {0}), (tt {0}, tt {0})))))

-- x comes before y where the test passes
pub before_by_test : (x y : List ℕ) → is_before x y ≡ true → IsBefore x y
before_by_test x y e =
    let h : T (is_before x y) = subst T (sym e) (tt {0}) in
    (rising_of_sorted (two x y) (both_hold _ _ (both_hold _ _ h (tt {0})) (tt {0}))).0.0

-- of two lists one comes before the other, or they are one
pub which_before : (x y : List ℕ) → IsBefore x y ⊎ ((x ≡ y) ⊎ IsBefore y x)
which_before [] [] = inr (inl refl)
which_before [] (b ∷ y) = inl tt
which_before (a ∷ x) [] = inr (inr tt)
which_before (a ∷ x) (b ∷ y) =
    elim (three_ways a b) [
      | inl l ↦ inl (inl l)
      | inr (inl e) ↦ elim (which_before x y) [
        | inl h ↦ inl (inr (e, h))
        | inr (inl h) ↦ inr (inl (cons_same e h))
        | inr (inr h) ↦ inr (inr (inr (sym e, h)))
      ]
      | inr (inr g) ↦ inr (inr (inl g))
    ]

-- what lies between a prefix of q and q begins with the prefix
pub between_begins : (r x q : List ℕ) → IsPrefix r q → IsBefore r x → IsBefore x q → IsPrefix r x
between_begins [] x q p b c = (x, refl)
between_begins (a ∷ r) [] q p b c = absurd b
between_begins (a ∷ r) (d ∷ x) [] p b c = absurd c
between_begins (a ∷ r) (d ∷ x) (e ∷ q) (t, p) b c =
    elim b [
      | inl l ↦ elim c [
        | inl g ↦ absurd (let i = cons_head p in omega (arith, l, g, i))
        | inr g ↦ absurd (let i = cons_head p in let j = g.0 in omega (arith, l, i, j))
      ]
      | inr l ↦ elim c [
        | inl g ↦ absurd (let i = cons_head p in let j = l.0 in omega (arith, g, i, j))
        | inr g ↦ let s = between_begins r x q (t, cons_tail p) l.1 g.1 in (s.0, cons_same (sym l.0) s.1)
      ]
    ]

-- nothing that begins with q comes before q
pub begun_not_before : (q c : List ℕ) → IsPrefix q c → IsBefore c q → ⊥
begun_not_before [] c p b = absurd (nothing c b)
  where
    nothing : (c : List ℕ) → IsBefore c [] → ⊥
    nothing c b = b
begun_not_before (a ∷ q) [] p b = absurd (let i : [] ≡ a ∷ (q ++ p.0) = p.1 in cc i)
begun_not_before (a ∷ q) (d ∷ c) (t, p) b =
    elim b [
      | inl l ↦ absurd (let i = cons_head p in omega (arith, l, i))
      | inr l ↦ begun_not_before q c (t, cons_tail p) l.1
    ]

-- a prefix of a list is the list or comes before it
pub prefix_before : (p q : List ℕ) → IsPrefix p q → (p ≡ q) ⊎ IsBefore p q
prefix_before p q h = elim (which_before p q) [
  | inl b ↦ inr b
  | inr (inl e) ↦ inl e
  | inr (inr g) ↦ absurd (begun_not_before p q h g)
]

-- the first n elements of a list begin it
pub taken_begins : (n : ℕ) (c : List ℕ) → IsPrefix (take n c) c
taken_begins n c = (drop n c, sym (take-append-drop n c))

-- the test of what comes before a list or begins with it
until_cases : (b p : Bool) → b || p ≡ true → (b ≡ true) ⊎ (p ≡ true)
until_cases true p h = inl refl
until_cases false p h = inr h

-- a or b holds where b does
or_second : (b p : Bool) → p ≡ true → b || p ≡ true
or_second true p h = refl
or_second false p h = h

-- what the test passes comes before q or begins with it
pub until_by_test : (y q : List ℕ) → is_until y q ≡ true → IsBefore y q ⊎ IsPrefix q y
until_by_test y q u = elim (until_cases _ _ u) [
  | inl b ↦ inl (before_by_test y q b)
  | inr p ↦ inr (prefix_by_test q y p)
]

-- what comes before q passes the test
pub until_by_before : (x q : List ℕ) → IsBefore x q → is_until x q ≡ true
until_by_before x q h = ap (λ b. b || is_prefix q x) (before_passes x q h)

-- what begins with q passes the test
pub until_by_prefix : (x q : List ℕ) → IsPrefix q x → is_until x q ≡ true
until_by_prefix x q h = or_second _ _ (is_prefix_true q x h)

-- what comes before a list that comes before q comes before q
pub before_passes_down : (q x y : List ℕ) → IsBefore x y → is_before y q ≡ true → is_before x q ≡ true
before_passes_down q x y h b = before_passes x q (before_through x y q h (before_by_test y q b))

-- what comes before what comes before q or begins with q does so too
pub until_passes_down : (q x y : List ℕ) → IsBefore x y → is_until y q ≡ true → is_until x q ≡ true
until_passes_down q x y h u = elim (until_by_test y q u) [
  | inl b ↦ until_by_before x q (before_through x y q h b)
  | inr p ↦ elim (which_before x q) [
    | inl b ↦ until_by_before x q b
    | inr (inl e) ↦ until_by_prefix x q (subst (IsPrefix q) (sym e) (prefix_itself q))
    | inr (inr g) ↦ until_by_prefix x q (between_begins q x y p g h)
  ]
]
