-- How many points, and prefixes of stored lists, one list more makes.
use Rattle.std.proofs.Common.{◌≡◌, ◌≢◌, ℕ, suc, ◌+◌, ◌≤◌, ◌⊎◌, List, [], ◌∷◌, ◌++◌, length, T, nat_cmp, is_some, refl, ap, sym, subst, ◌∙◌, inl, inr, append_assoc, append-nil, length-append, arith}
use Rattle.std.proofs.lemmas.Bool.{cases_Bool}
use Rattle.std.specs.Cmp.Lexicographic.{slice_cmp}
use Rattle.std.specs.FinMap as map
use Rattle.std.specs.Ordering.{eq_by_cmp}
use Rattle.nibble_map.specs.Answers.{IsLongest}
use Rattle.nibble_map.specs.Lists.{IsBefore, IsPrefix, Has, IsRising, Counts}
use Rattle.nibble_map.specs.Maps.{IsPoint, IsReached, IsSomePrefix, IsStored, NibbleMap}
use Rattle.nibble_map.proofs.ComputedLemmas.Answers.{compared_is}
use Rattle.nibble_map.proofs.ComputedLemmas.Points.{next_after-prefix}
use Rattle.nibble_map.proofs.ListLemmas.Cut.{cons_not_empty, join_two_ways}
use Rattle.nibble_map.proofs.ListLemmas.Members.{Has-left, Has-right}
use Rattle.nibble_map.proofs.ListLemmas.Parted.{prefix_through}
use Rattle.nibble_map.proofs.ListLemmas.Sorted.{equal_at, not_equal_at}
use Rattle.nibble_map.proofs.ListLemmas.Unique.{Each-has, before_not_itself}
use Rattle.nibble_map.proofs.MapLemmas.Edits.{same_Some, stored_by_entries}
use Rattle.nibble_map.proofs.MapLemmas.Walks.{get-inserted, get-inserted_elsewhere, get-removed, get-removed_elsewhere}
use Rattle.nibble_map.proofs.PointLemmas.Moves.{Within, compared_moves, point_moves, some_prefix_moves}
use Rattle.nibble_map.proofs.TreeLemmas.SomePrefixes.{fronts_after, fronts_after_has, length-fronts_after}

-- a list that has x is one longer than a list of all its other elements
cut_one : {A : Type 0} (ys : List A) (x : A) → Has ys x → (zs : List A) × (length ys ≡ suc (length zs)) × ((z : A) → Has ys z → z ≢ x → Has zs z)
cut_one [] x h = absurd h
cut_one (y ∷ ys) x (inl e) = (ys, refl, λ z k n. elim k [ inl i ↦ absurd (n (i ∙ sym e)) | inr j ↦ j ])
cut_one (y ∷ ys) x (inr h) = let r = cut_one ys x h in (y ∷ r.0, ap suc r.1, λ z k n. elim k [ inl i ↦ inl i | inr j ↦ inr (r.2 z j n) ])

-- a rising list is no longer than a list that has each of its elements
rising_is_shorter : (xs ys : List (List ℕ)) → IsRising xs → ((x : List ℕ) → Has xs x → Has ys x) → length xs ≤ length ys
rising_is_shorter [] ys r each = omega arith
rising_is_shorter (x ∷ xs) ys r each =
    let c = cut_one ys x (each x (inl refl)) in
    let l = rising_is_shorter xs c.0 r.1 (λ z k. c.2 z (each z (inr k)) (λ e. before_not_itself x (subst (IsBefore x) e (Each-has (IsBefore x) xs z r.0 k)))) in
    omega (arith, l, c.1)

module _ (S T : List ℕ → Type 0) (n o : ℕ) (c : Counts S n) (d : Counts T o) where
  -- a set T of no lists but those of S and of es has at most as many as these
  counts_few_more : (es : List (List ℕ)) → ((x : List ℕ) → T x → S x ⊎ Has es x) → o ≤ n + length es
  counts_few_more es each =
      let l = rising_is_shorter d.list (c.list ++ es) d.lists.rising (λ x h. elim (each x ((d.lists.exactly x).0 h)) [
        | inl s ↦ Has-left c.list es x ((c.lists.exactly x).1 s)
        | inr k ↦ Has-right c.list es x k
      ]) in
      omega (arith, l, length-append c.list es, c.length_is, d.length_is)

  -- a set within S has at most as many lists
  counts_within : Within T S → o ≤ n
  counts_within within = omega (arith, counts_few_more [] (λ x t. inl (within x t)))

-- n holds each list that m holds, and no other but e
pub record Grows {P : Type 0} (m n : NibbleMap P) (e : List ℕ) : Type 0 where
  pub kept : Within (IsStored m) (IsStored n)
  pub only : (x : List ℕ) → IsStored n x → IsStored m x ⊎ (x ≡ e)

-- after a prefix a list goes on by one nibble
next_same : (p e : List ℕ) (a b : ℕ) → IsPrefix (p ++ a ∷ []) e → IsPrefix (p ++ b ∷ []) e → a ≡ b
next_same p e a b h k = same_Some a b (sym (next_after-prefix p e a h) ∙ next_after-prefix p e b k)

module _ {P : Type 0} (m n : NibbleMap P) (e : List ℕ) (grows : Grows m n e) where
  -- what n reaches m reaches too, or it is a prefix of e
  reached_before : (p : List ℕ) → IsReached n p → IsReached m p ⊎ IsPrefix p e
  reached_before p (x, t, i) = elim (grows.only x t) [ inl s ↦ inl (x, s, i) | inr h ↦ inr (subst (IsPrefix p) h i) ]

  -- the longest prefix of e that m reaches, or the empty list
  longest : (q : List ℕ) × IsLongest (λ x. (x ≡ []) ⊎ IsSomePrefix m x) e q
  longest =
      let met = compared_moves _ (IsStored m) (λ x. (stored_by_entries m x).0) (λ x. (stored_by_entries m x).1) e _ (compared_is (map.entries m) e) in
      (met.0, met.1)

  -- m reaches each prefix of what it reaches
  reached_above : (p q : List ℕ) → IsPrefix p q → IsReached m q → IsReached m p
  reached_above p q i (x, s, j) = (x, s, prefix_through p q x i j)

  -- where e parts from what m reaches, m has a point, or the longest prefix ends
  parted_at : (p : List ℕ) (a b : ℕ) → a ≢ b → IsPrefix (p ++ a ∷ []) e → IsReached m (p ++ b ∷ []) → IsPoint m p ⊎ Has (e ∷ longest.0 ∷ []) p
  parted_at p a b apart i k =
      elim (join_two_ways p begun.0 longest.0 longest.1.above.0 (sym begun.1 ∙ longest.1.above.1)) [
        | inl z ↦ ends z.0 z.1
        | inr z ↦ absurd (passes z.0 z.1 z.2)
      ]
    where
      begun : IsPrefix p e
      begun = prefix_through p (p ++ a ∷ []) e (a ∷ [], refl) i

      passes : (c : ℕ) (w : List ℕ) → p ≡ longest.0 ++ c ∷ w → ⊥
      passes c w h =
          let least = longest.1.longest p (inr ((λ none. cons_not_empty longest.0 c w (sym h ∙ none)), reached_above p (p ++ b ∷ []) (b ∷ [], refl) k)) begun in
          omega (arith, least, ap length h, length-append longest.0 (c ∷ w))

      ends : (z : List ℕ) → longest.0 ≡ p ++ z → IsPoint m p ⊎ Has (e ∷ longest.0 ∷ []) p
      ends [] h = inr (inr (inl (sym (h ∙ append-nil p))))
      ends (c ∷ w) h =
          let next : IsPrefix (p ++ c ∷ []) longest.0 = (w, h ∙ sym (append_assoc p (c ∷ []) w)) in
          let same = next_same p e a c i (prefix_through (p ++ c ∷ []) longest.0 e next longest.1.above) in
          elim longest.1.member [
            | inl none ↦ absurd (cons_not_empty p c w (sym h ∙ none))
            | inr r ↦ inl (inr (inr (c, b, (λ q. apart (same ∙ q)), reached_above (p ++ c ∷ []) longest.0 next r.1, k)))
          ]

  -- a point of n is one of m, or e, or where the longest prefix ends
  point_before : (p : List ℕ) → IsPoint n p → IsPoint m p ⊎ Has (e ∷ longest.0 ∷ []) p
  point_before p (inl i) = inl (inl i)
  point_before p (inr (inl t)) = elim (grows.only p t) [ inl s ↦ inl (inr (inl s)) | inr i ↦ inr (inl i) ]
  point_before p (inr (inr (a, b, apart, h, k))) = elim (reached_before _ h) [
    | inl s ↦ elim (reached_before _ k) [
      | inl t ↦ inl (inr (inr (a, b, apart, s, t)))
      | inr j ↦ parted_at p b a (λ q. apart (sym q)) j s
    ]
    | inr i ↦ elim (reached_before _ k) [
      | inl t ↦ parted_at p a b apart i t
      | inr j ↦ absurd (apart (next_same p e a b i j))
    ]
  ]

  module _ (k o : ℕ) where
    -- n has no fewer points
    pub points_stay : Counts (IsPoint m) k → Counts (IsPoint n) o → k ≤ o
    points_stay c d = counts_within _ _ o k d c (point_moves _ _ grows.kept)

    -- n has at most two points more
    pub few_points : Counts (IsPoint m) k → Counts (IsPoint n) o → o ≤ k + 2
    few_points c d = counts_few_more _ _ k o c d (e ∷ longest.0 ∷ []) point_before

    -- n has no fewer prefixes of stored lists
    pub prefixes_stay : Counts (IsSomePrefix m) k → Counts (IsSomePrefix n) o → k ≤ o
    prefixes_stay c d = counts_within _ _ o k d c (some_prefix_moves _ _ grows.kept)

    -- n has at most as many prefixes more as e has nibbles
    pub few_prefixes : Counts (IsSomePrefix m) k → Counts (IsSomePrefix n) o → o ≤ k + length e
    few_prefixes c d = omega (arith, counts_few_more _ _ k o c d (fronts_after [] e) before, length-fronts_after [] e)
      where
        before : (p : List ℕ) → IsSomePrefix n p → IsSomePrefix m p ⊎ Has (fronts_after [] e) p
        before p t = elim (reached_before p t.1) [ inl s ↦ inl (t.0, s) | inr i ↦ inr (fronts_after_has [] e p t.0 i) ]

module _ {P : Type 0} (e : List ℕ) where
  -- where n answers as m does but at e, a list that n holds is held by m or is e
  held_but_at : (m n : NibbleMap P) → ((q : List ℕ) → q ≢ e → map.get n q ≡ map.get m q) → (q : List ℕ) → IsStored n q → IsStored m q ⊎ (q ≡ e)
  held_but_at m n elsewhere q s = elim (cases_Bool (eq_by_cmp (slice_cmp nat_cmp) q e)) [
    | inl i ↦ inr (equal_at q e i)
    | inr i ↦ inl (subst (λ o. T (is_some o)) (elsewhere q (not_equal_at q e i)) s)
  ]

  -- an insertion at e adds no list but e
  pub insert_grows : (m : NibbleMap P) (v : P) → Grows m (map.insert m e v) e
  insert_grows m v = record {
    kept = λ q s. elim (held_but_at (map.insert m e v) m (λ q n. sym (get-inserted_elsewhere m e q v n)) q s) [
      | inl t ↦ t
      | inr i ↦ subst (λ o. T (is_some o)) (sym (ap (map.get (map.insert m e v)) i ∙ get-inserted m e v)) tt
    ];
    only = held_but_at m (map.insert m e v) (λ q. get-inserted_elsewhere m e q v);
  }

  -- a removal at e takes away no list but e
  pub remove_grows : (m : NibbleMap P) → Grows (map.remove m e) m e
  remove_grows m = record {
    kept = λ q s. elim (held_but_at m (map.remove m e) (get-removed_elsewhere m e) q s) [
      | inl t ↦ t
      | inr i ↦ absurd (subst (λ o. T (is_some o)) (ap (map.get (map.remove m e)) i ∙ get-removed m e) s)
    ];
    only = held_but_at (map.remove m e) m (λ q n. sym (get-removed_elsewhere m e q n));
  }
