-- Two lists: one leads to the other, or they part; and what that makes of longest and shortest members.
use Rattle.std.proofs.Common.{◌≡◌, ℕ, ◌+◌, ◌≤◌, ◌≢◌, ◌⊎◌, true, false, List, [], ◌∷◌, ◌++◌, length, Option, Some, None, refl, ap, sym, subst, ◌∙◌, inl, inr, append_assoc, append-nil, length-append, arith, eq-eqb, ne_eqb}
use Rattle.std.proofs.lemmas.Bool.{cases_eq}
use Rattle.nibble_map.specs.Lists.{IsPrefix, is_prefix}
use Rattle.nibble_map.specs.Points.{IsReached, IsBranchPoint, IsPoint}
use Rattle.nibble_map.specs.Answers.{IsLongest, IsShortest, IsAncestor, IsRawDescendant, IsFragment, IsCompared}
use Rattle.nibble_map.proofs.ListLemmas.Cut.{cancel_front, cons_head, cons_tail, cons_same}

-- the test of a prefix
-- where the test `is_prefix` passes, p is a prefix of e
pub prefix_by_test : (p e : List ℕ) → is_prefix p e ≡ true → IsPrefix p e
prefix_by_test [] e h = (e, refl)
prefix_by_test (a ∷ p) [] h = absurd (let i : false ≡ true = h in cc i)
prefix_by_test (a ∷ p) (b ∷ e) h = elim (cases_eq a b) [
  | inl i ↦ let r = prefix_by_test p e (rw (eq-eqb a b i) at h) in (r.0, cons_same (sym i) r.1)
  | inr n ↦ absurd (let i : false ≡ true = rw (ne_eqb a b n) at h in cc i)
]

-- the test `is_prefix` passes where p is a prefix of e
pub is_prefix_true : (p e : List ℕ) → IsPrefix p e → is_prefix p e ≡ true
is_prefix_true [] e h = refl
is_prefix_true (a ∷ p) [] (r, h) = absurd (let i : [] ≡ a ∷ (p ++ r) = h in cc i)
is_prefix_true (a ∷ p) (b ∷ e) (r, h) = rw (eq-eqb a b (sym (cons_head h))) (is_prefix_true p e (r, cons_tail h))

-- a list is a prefix of itself
pub prefix_itself : (p : List ℕ) → IsPrefix p p
prefix_itself p = ([], sym (append-nil p))

-- a prefix of a prefix of e is a prefix of e
pub prefix_through : (p q e : List ℕ) → IsPrefix p q → IsPrefix q e → IsPrefix p e
prefix_through p q e (r, h) (t, k) = (r ++ t, k ∙ ap (λ l. l ++ t) h ∙ append_assoc p r t)

-- a prefix is at most as long as the list
pub prefix_length : (z y : List ℕ) → IsPrefix z y → length z ≤ length y
prefix_length z y (r, e) = let a = ap length e in let b = length-append z r in omega (arith, a, b)

-- two prefixes of one list of the same length
-- prefixes of one list are equal where they are equally long
equally_long_prefixes : (x y p : List ℕ) → IsPrefix x p → IsPrefix y p → length x ≡ length y → x ≡ y
equally_long_prefixes [] [] p h k e = refl
equally_long_prefixes [] (b ∷ y) p h k e = absurd (omega arith)
equally_long_prefixes (a ∷ x) [] p h k e = absurd (omega arith)
equally_long_prefixes (a ∷ x) (b ∷ y) [] (r, h) k e = absurd (let i : [] ≡ a ∷ (x ++ r) = h in cc i)
equally_long_prefixes (a ∷ x) (b ∷ y) (c ∷ p) (r, h) (t, k) e = cons_same (sym (cons_head h) ∙ cons_head k) (equally_long_prefixes x y p (r, cons_tail h) (t, cons_tail k) (omega arith))

-- a prefix that is at least as long as the list is the list
pub prefix_is_whole : (x y : List ℕ) → IsPrefix x y → length y ≤ length x → x ≡ y
prefix_is_whole x y h l = let k = prefix_length x y h in equally_long_prefixes x y y h (prefix_itself y) (omega (arith, l, k))

-- x and y part at z, by a and by b
pub record Split (x y z : List ℕ) (a b : ℕ) : Type 0 where
  pub apart : a ≢ b
  pub left : List ℕ
  pub right : List ℕ
  pub left_is : x ≡ z ++ a ∷ left
  pub right_is : y ≡ z ++ b ∷ right

-- one of two lists is a prefix of the other, or they part somewhere
prefix_or_split : (x y : List ℕ) → IsPrefix x y ⊎ (IsPrefix y x ⊎ ((z : List ℕ) × (a : ℕ) × (b : ℕ) × Split x y z a b))
prefix_or_split [] y = inl (y, refl)
prefix_or_split (c ∷ x) [] = inr (inl (c ∷ x, refl))
prefix_or_split (c ∷ x) (d ∷ y) =
    elim (cases_eq c d) [
      | inr n ↦ inr (inr ([], c, d, record { apart = n; left = x; right = y; left_is = refl; right_is = refl }))
      | inl e ↦ elim (prefix_or_split x y) [
        | inl h ↦ inl (h.0, cons_same (sym e) h.1)
        | inr k ↦ elim k [
          | inl h ↦ inr (inl (h.0, cons_same e h.1))
          | inr h ↦ inr (inr (c ∷ h.0, h.1, h.2, record { apart = h.3.apart; left = h.3.left; right = h.3.right; left_is = cons_same refl h.3.left_is; right_is = cons_same (sym e) h.3.right_is }))
        ]
      ]
    ]

-- what leads to both leads to where they part
pub prefix_of_both : (e z : List ℕ) (a b : ℕ) (u v : List ℕ) → a ≢ b → IsPrefix e (z ++ a ∷ u) → IsPrefix e (z ++ b ∷ v) → IsPrefix e z
prefix_of_both [] z a b u v n h k = (z, refl)
prefix_of_both (d ∷ e) [] a b u v n h k = absurd (n (cons_head h.1 ∙ sym (cons_head k.1)))
prefix_of_both (d ∷ e) (c ∷ z) a b u v n h k = let r = prefix_of_both e z a b u v n (h.0, cons_tail h.1) (k.0, cons_tail k.1) in (r.0, cons_same (cons_head h.1) r.1)

module _ (S : List ℕ → Type 0) where
  -- a point is the empty list or a prefix of a stored list
  point_reached : (p : List ℕ) → IsPoint S p → (p ≡ []) ⊎ IsReached S p
  point_reached p (inl e) = inl e
  point_reached p (inr (inl s)) = inr (p, s, prefix_itself p)
  point_reached p (inr (inr (a, b, n, (e, s, i), r))) = inr (e, s, prefix_through p (p ++ a ∷ []) e (a ∷ [], refl) i)

  -- where x goes on from z by the nibble a, and x is reached, z and a is reached
  reached_at : (x z : List ℕ) (a : ℕ) (u : List ℕ) → x ≡ z ++ a ∷ u → IsReached S x → IsReached S (z ++ a ∷ [])
  reached_at x z a u e (d, s, i) = (d, s, prefix_through (z ++ a ∷ []) x d (u, e ∙ sym (append_assoc z (a ∷ []) u)) i)

  -- where two reached lists part at z, stored lists part at z
  split_parts : (x y z : List ℕ) (a b : ℕ) → Split x y z a b → IsReached S x → IsReached S y → IsBranchPoint S z
  split_parts x y z a b s h k = (a, b, s.apart, reached_at x z a s.left s.left_is h, reached_at y z b s.right s.right_is k)

  -- a list that goes on from z isn't empty
  not_empty : (p z : List ℕ) (a : ℕ) (u : List ℕ) → p ≡ z ++ a ∷ u → p ≢ []
  not_empty p z a u e i = let k = ap length e ∙ length-append z (a ∷ u) in let j = ap length i in omega (arith, k, j)

  -- a point that goes on from some list, and so isn't empty, is a prefix of a stored list
  pub reached_past : (p z : List ℕ) (a : ℕ) (u : List ℕ) → p ≡ z ++ a ∷ u → IsPoint S p → IsReached S p
  reached_past p z a u e h = elim (point_reached p h) [ inl i ↦ absurd (not_empty p z a u e i) | inr r ↦ r ]

  -- the shortest point at or below e leads to each of them
  pub shortest_leads : (e q y : List ℕ) → IsShortest (IsPoint S) e q → IsPoint S y → IsPrefix e y → IsPrefix q y
  shortest_leads e q y l h i = elim (prefix_or_split q y) [
    | inl k ↦ k
    | inr m ↦ elim m [
      | inl k ↦ subst (λ v. IsPrefix v y) (prefix_is_whole y q k (l.shortest y h i)) (prefix_itself y)
      | inr k ↦ absurd (never k.0 k.1 k.2 k.3)
    ]
  ]
    where
      never : (z : List ℕ) (a b : ℕ) → Split q y z a b → ⊥
      never z a b s =
          let at : IsPoint S z = inr (inr (split_parts q y z a b s (reached_past q z a s.left s.left_is l.member) (reached_past y z b s.right s.right_is h))) in
          let k = l.shortest z at (prefix_of_both e z a b s.left s.right s.apart (subst (IsPrefix e) s.left_is l.below) (subst (IsPrefix e) s.right_is i)) in
          let n = ap length s.left_is ∙ length-append z (a ∷ s.left) in omega (arith, k, n)

  -- two shortest points that e is a prefix of are equal
  pub shortest_unique : (e p q : List ℕ) → IsShortest (IsPoint S) e p → IsShortest (IsPoint S) e q → p ≡ q
  shortest_unique e p q h k = prefix_is_whole p q (shortest_leads e p q h k.member k.below) (k.shortest p h.member h.below)

-- two longest lists of C that are prefixes of e are equal
pub longest_unique : (C : List ℕ → Type 0) (e p q : List ℕ) → IsLongest C e p → IsLongest C e q → p ≡ q
longest_unique C e p q h k =
    let a = h.longest q k.member k.above in let b = k.longest p h.member h.above in equally_long_prefixes p q e h.above k.above (omega (arith, a, b))

-- two answers for the longest stored list that is a prefix of e are equal
pub ancestor_unique : (S : List ℕ → Type 0) (e : List ℕ) (a b : Option (List ℕ)) → IsAncestor S e a → IsAncestor S e b → a ≡ b
ancestor_unique S e None None h k = refl
ancestor_unique S e None (Some q) h k = absurd (h q k.member k.above)
ancestor_unique S e (Some p) None h k = absurd (k p h.member h.above)
ancestor_unique S e (Some p) (Some q) h k = ap (λ l. Some l) (longest_unique S e p q h k)

-- two answers for the shortest point that e is a prefix of are equal
pub raw_descendant_unique : (S : List ℕ → Type 0) (e : List ℕ) (a b : Option (List ℕ)) → IsRawDescendant S e a → IsRawDescendant S e b → a ≡ b
raw_descendant_unique S e None None h k = refl
raw_descendant_unique S e None (Some q) h k = absurd (h q k.member k.below)
raw_descendant_unique S e (Some p) None h k = absurd (k p h.member h.below)
raw_descendant_unique S e (Some p) (Some q) h k = ap (λ l. Some l) (shortest_unique S e p q h k)

-- two counts of the nibbles compared in a search for e are equal
pub compared_unique : (S : List ℕ → Type 0) (e : List ℕ) (m n : ℕ) → IsCompared S e m → IsCompared S e n → m ≡ n
compared_unique S e m n (p, h, c) (q, k, d) = by c d
  where
    same : p ≡ q
    same = longest_unique _ e p q h k

    by : ((((p ≡ e) ⊎ IsPoint S p) × (m ≡ length p)) ⊎ ((p ≢ e) × (IsPoint S p → ⊥) × (m ≡ length p + 1)))
        → ((((q ≡ e) ⊎ IsPoint S q) × (n ≡ length q)) ⊎ ((q ≢ e) × (IsPoint S q → ⊥) × (n ≡ length q + 1))) → m ≡ n
    by (inl c) (inl d) = c.1 ∙ ap length same ∙ sym d.1
    by (inl c) (inr d) = absurd (elim c.0 [ inl i ↦ d.0 (sym same ∙ i) | inr i ↦ d.1 (subst (IsPoint S) same i) ])
    by (inr c) (inl d) = absurd (elim d.0 [ inl i ↦ c.0 (same ∙ i) | inr i ↦ c.1 (subst (IsPoint S) (sym same) i) ])
    by (inr c) (inr d) = c.2 ∙ ap (λ l. length l + 1) same ∙ sym d.2

-- two fragments of the point p are equal
pub fragment_unique : (S : List ℕ → Type 0) (p f g : List ℕ) → IsFragment S p f → IsFragment S p g → f ≡ g
fragment_unique S p f g (inl h) (inl k) = h.1 ∙ sym k.1
fragment_unique S p f g (inl h) (inr (q, l, e)) = absurd (l.member.1 (prefix_is_whole q p l.above (let i = ap length h.0 in omega (arith, i))))
fragment_unique S p f g (inr (q, l, e)) (inl k) = absurd (l.member.1 (prefix_is_whole q p l.above (let i = ap length k.0 in omega (arith, i))))
fragment_unique S p f g (inr (q, l, e)) (inr (r, k, i)) = cancel_front q f g (sym e ∙ i ∙ ap (λ v. v ++ g) (sym (longest_unique _ p q r l k)))
