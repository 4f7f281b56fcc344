-- The slow answers are those of the relations.
use Rattle.nibble_map.specs.Points.{IsPoint, IsSomePrefix}
use Rattle.nibble_map.specs.Answers.{IsLongest, IsShortest, IsAncestor, IsRawAncestor, IsRawDescendant, IsFragment, IsCompared, IsVisited}
use Rattle.std.proofs.Common.{◌≡◌, ℕ, ◌+◌, ◌≤◌, ◌≢◌, ◌⊎◌, ◌↔◌, ◌||◌, List, [], ◌∷◌, ◌++◌, filter, Option, Some, None, Bool, cond, not, leb, length, drop, true, false, refl, ap, sym, subst, ◌∙◌, inl, inr, arith, unwrap_or}
use Rattle.std.specs.Prelude.{MatchOption}
use Rattle.std.proofs.Math.Seq.{drop-nil, drop-append_seam}
use Rattle.std.proofs.lemmas.Bool.{cases_Bool, cases_order, le-leb, lt-leb}
use Rattle.nibble_map.specs.Lists.{IsPrefix, is_prefix, Has}
use Rattle.nibble_map.specs.Stored.{stored, IsStored}
use Rattle.nibble_map.specs.Computed.{same, prefixes, points, is_point, longer, longest, shorter, shortest, ancestor, raw_ancestor, raw_descendant, parent, fragment, met, compared, visited}
use Rattle.nibble_map.proofs.ListLemmas.Cut.{cons_not_empty}
use Rattle.nibble_map.proofs.ComputedLemmas.Prefixes.{equal_by_same, same_itself, prefixes_list}
use Rattle.nibble_map.proofs.ComputedLemmas.Points.{point_by_test, is_point-point, points_list}
use Rattle.nibble_map.proofs.ComputedLemmas.Filters.{filter_has, has_filter}
use Rattle.nibble_map.proofs.PointLemmas.Visited.{prefixes_counted}
use Rattle.nibble_map.proofs.ListLemmas.Parted.{prefix_by_test, is_prefix_true}

-- a test isn't both true and false
no_test : (b : Bool) → b ≡ true → b ≡ false → ⊥
no_test b h k = let i : true ≡ false = sym h ∙ k in cc i

-- a member that is at least as long as each, and one that is at most
abbrev Longest : List (List ℕ) → List ℕ → Type 0
Longest ps p = Has ps p × ((q : List ℕ) → Has ps q → length q ≤ length p)

-- p is a member that is at most as long as each
abbrev Shortest : List (List ℕ) → List ℕ → Type 0
Shortest ps p = Has ps p × ((q : List ℕ) → Has ps q → length p ≤ length q)

-- where the test `leb m n` passes, m is at most n
at_most : (m n : ℕ) → leb m n ≡ true → m ≤ n
at_most m n h = elim (cases_order m n) [
  | inl e ↦ omega arith
  | inr k ↦ elim k [ inl l ↦ omega arith | inr l ↦ absurd (no_test (leb m n) h (lt-leb m n l)) ]
]

-- where the test `leb m n` fails, n is at most m
leb_false : (m n : ℕ) → leb m n ≡ false → n ≤ m
leb_false m n h = elim (cases_order m n) [
  | inl e ↦ omega arith
  | inr k ↦ elim k [ inl l ↦ absurd (no_test (leb m n) (le-leb m n (omega arith)) h) | inr l ↦ omega arith ]
]

-- what `longest` computes is a longest member, or there is no member
longest_member : (ps : List (List ℕ)) → MatchOption (longest ps) ((q : List ℕ) → Has ps q → ⊥) (Longest ps)
longest_member [] = λ q h. h
longest_member (p ∷ ps) = more (longest ps) (longest_member ps)
  where
    more : (o : Option (List ℕ)) → MatchOption o ((q : List ℕ) → Has ps q → ⊥) (Longest ps) → Longest (p ∷ ps) (longer p o)
    more None n = (inl refl, (λ q h. elim h [ inl e ↦ (let i = ap length e in omega (arith, i)) | inr k ↦ absurd (n q k) ]))
    more (Some r) (h, l) = by (leb (length p) (length r)) refl
      where
        by : (b : Bool) → leb (length p) (length r) ≡ b → Longest (p ∷ ps) (cond b r p)
        by true e = (inr h, (λ q k. elim k [ inl i ↦ (let j = ap length i in let m = at_most _ _ e in omega (arith, j, m)) | inr k ↦ l q k ]))
        by false e = (inl refl, (λ q k. elim k [ inl i ↦ (let j = ap length i in omega (arith, j)) | inr k ↦ (let m = leb_false _ _ e in let j = l q k in omega (arith, m, j)) ]))

-- what `shortest` computes is a shortest member, or there is no member
shortest_member : (ps : List (List ℕ)) → MatchOption (shortest ps) ((q : List ℕ) → Has ps q → ⊥) (Shortest ps)
shortest_member [] = λ q h. h
shortest_member (p ∷ ps) = more (shortest ps) (shortest_member ps)
  where
    more : (o : Option (List ℕ)) → MatchOption o ((q : List ℕ) → Has ps q → ⊥) (Shortest ps) → Shortest (p ∷ ps) (shorter p o)
    more None n = (inl refl, (λ q h. elim h [ inl e ↦ (let i = ap length e in omega (arith, i)) | inr k ↦ absurd (n q k) ]))
    more (Some r) (h, l) = by (leb (length p) (length r)) refl
      where
        by : (b : Bool) → leb (length p) (length r) ≡ b → Shortest (p ∷ ps) (cond b p r)
        by true e = (inl refl, (λ q k. elim k [ inl i ↦ (let j = ap length i in omega (arith, j)) | inr k ↦ (let m = at_most _ _ e in let j = l q k in omega (arith, m, j)) ]))
        by false e = (inr h, (λ q k. elim k [ inl i ↦ (let j = ap length i in let m = leb_false _ _ e in omega (arith, j, m)) | inr k ↦ l q k ]))

-- what is said of an option follows, case by case, from something else said of it
option_follows : {A : Type 0} (o : Option A) (P Q : Type 0) (S T : A → Type 0) → (P → Q) → ((x : A) → S x → T x) → MatchOption o P S → MatchOption o Q T
option_follows None P Q S T f g h = f h
option_follows (Some x) P Q S T f g h = g x h

-- the longest of those that are prefixes of e, of a list of what C holds of
module _ (C : List ℕ → Type 0) (ps : List (List ℕ)) (members : (p : List ℕ) → Has ps p ↔ C p) (e : List ℕ) where
  -- `longest` computes the longest list of C that is a prefix of e, or there is none
  longest_is : MatchOption (longest (filter (λ p. is_prefix p e) ps)) ((p : List ℕ) → C p → IsPrefix p e → ⊥) (λ p. IsLongest C e p)
  longest_is = option_follows (longest (filter (λ p. is_prefix p e) ps)) _ _ _ (λ p. IsLongest C e p) (λ n p c i. n p (put p c i)) best (longest_member (filter (λ p. is_prefix p e) ps))
    where
      put : (p : List ℕ) → C p → IsPrefix p e → Has (filter (λ p. is_prefix p e) ps) p
      put p c i = has_filter (λ p. is_prefix p e) ps p ((members p).1 c) (is_prefix_true p e i)

      best : (p : List ℕ) → Longest (filter (λ p. is_prefix p e) ps) p → IsLongest C e p
      best p (h, l) = let r = filter_has (λ p. is_prefix p e) ps p h in
          record { member = (members p).0 r.0; above = prefix_by_test p e r.1; longest = λ q c i. l q (put q c i) }

  -- `shortest` computes the shortest list of C that e is a prefix of, or there is none
  shortest_is : MatchOption (shortest (filter (is_prefix e) ps)) ((p : List ℕ) → C p → IsPrefix e p → ⊥) (λ p. IsShortest C e p)
  shortest_is = option_follows (shortest (filter (is_prefix e) ps)) _ _ _ (λ p. IsShortest C e p) (λ n p c i. n p (put p c i)) best (shortest_member (filter (is_prefix e) ps))
    where
      put : (p : List ℕ) → C p → IsPrefix e p → Has (filter (is_prefix e) ps) p
      put p c i = has_filter (is_prefix e) ps p ((members p).1 c) (is_prefix_true e p i)

      best : (p : List ℕ) → Shortest (filter (is_prefix e) ps) p → IsShortest C e p
      best p (h, l) = let r = filter_has (is_prefix e) ps p h in
          record { member = (members p).0 r.0; below = prefix_by_test e p r.1; shortest = λ q c i. l q (put q c i) }

  -- the longest list of C that is a prefix of e is computed, where C holds of the empty list
  longest_or_empty : C [] → IsLongest C e (unwrap_or (longest (filter (λ p. is_prefix p e) ps)) [])
  longest_or_empty c = by (longest (filter (λ p. is_prefix p e) ps)) longest_is
    where
      by : (o : Option (List ℕ)) → MatchOption o ((p : List ℕ) → C p → IsPrefix p e → ⊥) (λ p. IsLongest C e p) → IsLongest C e (unwrap_or o [])
      by None n = absurd (n [] c (e, refl))
      by (Some p) l = l

module _ {P : Type 0} (m : List (List ℕ × P)) where
  -- the computed ancestor is the longest stored list that is a prefix of e, or there is none
  pub ancestor_is : (e : List ℕ) → IsAncestor (IsStored m) e (ancestor m e)
  ancestor_is e = longest_is (IsStored m) (stored m) (λ p. ((λ h. h), (λ h. h))) e

  -- the computed raw ancestor is the longest point that is a prefix of e
  pub raw_ancestor_is : (e : List ℕ) → IsRawAncestor (IsStored m) e (raw_ancestor m e)
  raw_ancestor_is e = longest_or_empty (IsPoint (IsStored m)) (points m) (points_list m).exactly e (inl refl)

  -- the computed raw descendant is the shortest point that e is a prefix of, or there is none
  pub raw_descendant_is : (e : List ℕ) → IsRawDescendant (IsStored m) e (raw_descendant m e)
  raw_descendant_is e = shortest_is (IsPoint (IsStored m)) (points m) (points_list m).exactly e

  -- the points but p
  other_points : (p x : List ℕ) → Has (filter (λ q. not (same q p)) (points m)) x ↔ (IsPoint (IsStored m) x × (x ≢ p))
  other_points p x = (to, from)
    where
      to : Has (filter (λ q. not (same q p)) (points m)) x → IsPoint (IsStored m) x × (x ≢ p)
      to h = let r = filter_has (λ q. not (same q p)) (points m) x h in
          (((points_list m).exactly x).0 r.0, (λ e. no_test (not (same x p)) r.1 (ap not (subst (λ v. same x v ≡ true) e (same_itself x)))))

      from : IsPoint (IsStored m) x × (x ≢ p) → Has (filter (λ q. not (same q p)) (points m)) x
      from (h, n) = has_filter (λ q. not (same q p)) (points m) x (((points_list m).exactly x).1 h) (elim (cases_Bool (same x p)) [ inl e ↦ absurd (n (equal_by_same x p e)) | inr e ↦ ap not e ])

  -- the computed fragment is what p has beyond the longest point strictly above it
  pub fragment_is : (p : List ℕ) → IsFragment (IsStored m) p (fragment m p)
  fragment_is [] = inl (refl, drop-nil (length (parent m [])))
  fragment_is (a ∷ p) =
      let l = longest_or_empty (λ x. IsPoint (IsStored m) x × (x ≢ a ∷ p)) (filter (λ q. not (same q (a ∷ p))) (points m)) (other_points (a ∷ p)) (a ∷ p) (inl refl, (λ e. cons_not_empty [] a p (sym e))) in
      inr (parent m (a ∷ p), l, rest (parent m (a ∷ p)) (a ∷ p) l.above)
    where
      rest : (q p : List ℕ) → IsPrefix q p → p ≡ q ++ drop (length q) p
      rest q p (r, e) = e ∙ ap (λ l. q ++ l) (sym (ap (drop (length q)) e ∙ drop-append_seam q r))

  -- the count of a search
  -- the empty list and the computed prefixes are the empty list and the prefixes of stored lists
  is_front : (x : List ℕ) → Has ([] ∷ prefixes m) x ↔ ((x ≡ []) ⊎ IsSomePrefix (IsStored m) x)
  is_front x = ((λ h. elim h [ inl e ↦ inl e | inr k ↦ inr (((prefixes_list m).exactly x).0 k) ]), (λ h. elim h [ inl e ↦ inl e | inr k ↦ inr (((prefixes_list m).exactly x).1 k) ]))

  -- the computed count is how many nibbles are compared in a search for e
  pub compared_is : (e : List ℕ) → IsCompared (IsStored m) e (compared m e)
  compared_is e = (met m e, longest_or_empty (λ x. (x ≡ []) ⊎ IsSomePrefix (IsStored m) x) ([] ∷ prefixes m) is_front e (inl refl), by (same (met m e) e) (is_point m (met m e)) refl refl)
    where
      by : (b c : Bool) → same (met m e) e ≡ b → is_point m (met m e) ≡ c →
          ((((met m e ≡ e) ⊎ IsPoint (IsStored m) (met m e)) × (length (met m e) + cond (b || c) 0 1 ≡ length (met m e)))
          ⊎ ((met m e ≢ e) × (IsPoint (IsStored m) (met m e) → ⊥) × (length (met m e) + cond (b || c) 0 1 ≡ length (met m e) + 1)))
      by true c i j = inl (inl (equal_by_same _ e i), omega arith)
      by false true i j = inl (inr (point_by_test m _ j), omega arith)
      by false false i j = inr ((λ k. no_test (same (met m e) e) (subst (λ v. same (met m e) v ≡ true) k (same_itself (met m e))) i), (λ k. no_test _ (is_point-point m (met m e) k) j), refl)

  -- the computed count is how many nodes a search for e visits
  pub visited_is : (e : List ℕ) → IsVisited (IsStored m) e (visited m e)
  visited_is e = prefixes_counted (IsPoint (IsStored m)) (points m) e (points_list m)
