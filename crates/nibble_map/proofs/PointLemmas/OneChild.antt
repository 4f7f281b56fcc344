-- Where the query is a point; and the one child that leads to a stored list.
use Rattle.std.proofs.Common.{◌≡◌, ℕ, ◌↔◌, List, [], ◌∷◌, ◌++◌, Option, Some, None, sym, ap, subst, ◌∙◌, inl, inr, append_assoc}
use Rattle.std.specs.FinMap as map
use Rattle.nibble_map.specs.Lists.{IsPrefix, IsStrictPrefix}
use Rattle.nibble_map.specs.Points.{IsPoint}
use Rattle.nibble_map.specs.Answers.{IsShortest, IsRawAncestor, IsRawDescendant}
use Rattle.nibble_map.specs.Computed.{raw_descendant}
use Rattle.nibble_map.specs.Maps.{NibbleMap, IsStored}
use Rattle.nibble_map.specs.MapQueries.{IsChild, AreChildren, IsLeaf}
use Rattle.nibble_map.proofs.ComputedLemmas.Answers.{raw_descendant_is}
use Rattle.nibble_map.proofs.ListLemmas.Cut.{cancel_front, cons_head}
use Rattle.nibble_map.proofs.MapLemmas.Edits.{stored_by_entries}
use Rattle.nibble_map.proofs.PointLemmas.Moves.{raw_descendant_moves}
use Rattle.nibble_map.proofs.ListLemmas.Parted.{prefix_itself, prefix_length, prefix_through, reached_past, longest_unique, raw_descendant_unique, shortest_leads, shortest_unique}

module _ (S : List ℕ → Type 0) (p : List ℕ) (point : IsPoint S p) where
  -- the raw ancestor of a point is the point itself
  pub own_ancestor : (a : List ℕ) → IsRawAncestor S p a ↔ (a ≡ p)
  own_ancestor a = ((λ h. longest_unique (IsPoint S) p a p h own), (λ e. subst (IsRawAncestor S p) (sym e) own))
    where
      own : IsRawAncestor S p p
      own = record { member = point; above = prefix_itself p; longest = λ q h i. prefix_length q p i }

  -- the raw descendant of a point is the point itself
  pub own_descendant : (a : Option (List ℕ)) → IsRawDescendant S p a ↔ (a ≡ Some p)
  own_descendant a = ((λ h. raw_descendant_unique S p a (Some p) h own), (λ e. subst (IsRawDescendant S p) (sym e) own))
    where
      own : IsRawDescendant S p (Some p)
      own = record { member = point; below = prefix_itself p; shortest = λ q h i. prefix_length p q i }

-- a child has a stored list at or below it
child_leads : (S : List ℕ → Type 0) (p q : List ℕ) (a : ℕ) → IsShortest (IsPoint S) (p ++ a ∷ []) q → (e : List ℕ) × S e × IsStrictPrefix p e
child_leads S p q a l =
    let b = l.below in
    let r = reached_past S q p a b.0 (b.1 ∙ append_assoc p (a ∷ []) b.0) l.member in
    let k = prefix_through (p ++ a ∷ []) q r.0 b r.2 in
    (r.0, r.1, (a, k.0, k.1 ∙ append_assoc p (a ∷ []) k.0))

module _ {P : Type 0} (m : NibbleMap P) (p e : List ℕ) (h : IsStored m e) where
  -- a list that goes on from p by a has the prefix p and a
  step_begins : (a : ℕ) (rest : List ℕ) → e ≡ p ++ a ∷ rest → IsPrefix (p ++ a ∷ []) e
  step_begins a rest i = (rest, i ∙ sym (append_assoc p (a ∷ []) rest))

  -- the stored list e is a point
  stored_is_point : IsPoint (IsStored m) e
  stored_is_point = inr (inl h)

  -- where e goes on from p by a, there is a shortest point below p and a
  next_point : (a : ℕ) (rest : List ℕ) → e ≡ p ++ a ∷ rest → (q : List ℕ) × IsShortest (IsPoint (IsStored m)) (p ++ a ∷ []) q
  next_point a rest i = by (raw_descendant (map.entries m) (p ++ a ∷ []))
      (raw_descendant_moves _ _ (λ x. (stored_by_entries m x).0) (λ x. (stored_by_entries m x).1) (p ++ a ∷ []) _ (raw_descendant_is (map.entries m) (p ++ a ∷ [])))
    where
      by : (o : Option (List ℕ)) → IsRawDescendant (IsStored m) (p ++ a ∷ []) o → (q : List ℕ) × IsShortest (IsPoint (IsStored m)) (p ++ a ∷ []) q
      by None n = absurd (n e stored_is_point (step_begins a rest i))
      by (Some q) l = (q, l)

  -- a stored list strictly below p is at or below one child of p, and no other
  pub one_child_leads : IsStrictPrefix p e → (q : List ℕ) × IsChild m p q × IsPrefix q e × ((r : List ℕ) → IsChild m p r → IsPrefix r e → r ≡ q)
  one_child_leads (a, rest, i) =
      let q = next_point a rest i in
      (q.0, (a, q.1), shortest_leads (IsStored m) (p ++ a ∷ []) q.0 e q.1 stored_is_point (step_begins a rest i), (λ r k l. other q.0 q.1 r k.0 k.1 l))
    where
      -- a child that leads to e begins with the same nibble
      other : (q : List ℕ) → IsShortest (IsPoint (IsStored m)) (p ++ a ∷ []) q → (r : List ℕ) (b : ℕ) → IsShortest (IsPoint (IsStored m)) (p ++ b ∷ []) r → IsPrefix r e → r ≡ q
      other q l r b k (t, j) =
          let s = k.below in
          let n = cons_head (cancel_front p (b ∷ (s.0 ++ t)) (a ∷ rest) (sym (append_assoc p (b ∷ []) (s.0 ++ t)) ∙ sym (append_assoc (p ++ b ∷ []) s.0 t) ∙ ap (λ v. v ++ t) (sym s.1) ∙ sym j ∙ i)) in
          shortest_unique (IsStored m) (p ++ a ∷ []) r q (subst (λ c. IsShortest (IsPoint (IsStored m)) (p ++ c ∷ []) r) n k) l

-- p is a leaf exactly where it has no children
pub leaf_has_no_children : {P : Type 0} (m : NibbleMap P) (p : List ℕ) → IsLeaf m p ↔ AreChildren m p []
leaf_has_no_children m p = (
  (λ h. record { rising = tt; exactly = λ q. ((λ k. absurd k), (λ k. let r = child_leads (IsStored m) p q k.0 k.1 in absurd (h r.0 r.1 r.2))) }),
  (λ k e h s. let q = one_child_leads m p e h s in (k.exactly q.0).1 q.1),
)
