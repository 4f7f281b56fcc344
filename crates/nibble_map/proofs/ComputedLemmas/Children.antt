-- The slow list of children is the relation's.
use Rattle.nibble_map.specs.Points.{IsReached, IsPoint, IsSomePrefix}
use Rattle.nibble_map.specs.Answers.{IsShortest, IsRawDescendant, IsChild, AreChildren}
use Rattle.std.proofs.Common.{◌≡◌, ℕ, suc, ◌+◌, ◌&&◌, List, [], ◌∷◌, ◌++◌, filter_map, Option, Some, None, Bool, eqb, length, true, false, refl, ap, sym, subst, ◌∙◌, inl, inr, append_assoc, length-append, arith, eq-eqb}
use Rattle.std.specs.List.{cons_option}
use Rattle.std.proofs.lemmas.Bool.{eqb-true}
use Rattle.nibble_map.specs.Lists.{IsPrefix, IsBefore, is_prefix, Has, IsRising}
use Rattle.nibble_map.specs.Stored.{IsStored}
use Rattle.nibble_map.specs.Computed.{prefixes, raw_descendant, steps, children}
use Rattle.nibble_map.proofs.ListLemmas.Cut.{cons_not_empty}
use Rattle.nibble_map.proofs.ComputedLemmas.Prefixes.{prefixes_list}
use Rattle.nibble_map.proofs.ComputedLemmas.Filters.{filter_has, has_filter, filter_rises}
use Rattle.nibble_map.proofs.ListLemmas.Parted.{prefix_by_test, is_prefix_true, prefix_through, reached_past, shortest_unique}
use Rattle.nibble_map.proofs.ListLemmas.Rising.{Each-from_has}
use Rattle.nibble_map.proofs.ListLemmas.Unique.{Each-has}
use Rattle.nibble_map.proofs.ComputedLemmas.Answers.{raw_descendant_is}

-- lists that begin with lists of one length come as those do
before_by : (x y u v : List ℕ) → IsBefore x y → length x ≡ length y → IsBefore (x ++ u) (y ++ v)
before_by x [] u v h e = absurd h
before_by [] (b ∷ y) u v h e = absurd (omega arith)
before_by (a ∷ x) (b ∷ y) u v (inl l) e = inl l
before_by (a ∷ x) (b ∷ y) u v (inr h) e = inr (h.0, before_by x y u v h.1 (omega arith))

-- the members of a list with nothing left out
-- what f picks out of ps is what f gives for some list of ps
picked_has : (f : List ℕ → Option (List ℕ)) (ps : List (List ℕ)) (x : List ℕ) → Has (filter_map f ps) x → (p : List ℕ) × Has ps p × (f p ≡ Some x)
picked_has f [] x h = absurd h
picked_has f (p ∷ ps) x h = by (f p) refl h (picked_has f ps x)
  where
    by : (o : Option (List ℕ)) → f p ≡ o → Has (cons_option o (filter_map f ps)) x → (Has (filter_map f ps) x → (q : List ℕ) × Has ps q × (f q ≡ Some x)) → (q : List ℕ) × Has (p ∷ ps) q × (f q ≡ Some x)
    by None i h g = let r = g h in (r.0, inr r.1, r.2)
    by (Some y) i (inl e) g = (p, inl refl, i ∙ ap (λ c. Some c) (sym e))
    by (Some y) i (inr h) g = let r = g h in (r.0, inr r.1, r.2)

-- what f gives for a list of ps is among what f picks out of ps
has_picked : (f : List ℕ → Option (List ℕ)) (ps : List (List ℕ)) (p x : List ℕ) → Has ps p → f p ≡ Some x → Has (filter_map f ps) x
has_picked f [] p x h e = absurd h
has_picked f (q ∷ ps) p x (inl i) e = subst (λ o. Has (cons_option o (filter_map f ps)) x) (sym (ap f (sym i) ∙ e)) (inl refl)
has_picked f (q ∷ ps) p x (inr h) e = later (f q) (has_picked f ps p x h e)
  where
    later : (o : Option (List ℕ)) → Has (filter_map f ps) x → Has (cons_option o (filter_map f ps)) x
    later None k = k
    later (Some y) k = inr k

-- what f picks out of rising lists of one length, each going on from its list, rises
picks_rise : (n : ℕ) (f : List ℕ → Option (List ℕ)) (ps : List (List ℕ)) → ((p x : List ℕ) → Has ps p → f p ≡ Some x → IsPrefix p x × (length p ≡ n)) → IsRising ps → IsRising (filter_map f ps)
picks_rise n f [] h r = tt
picks_rise n f (p ∷ ps) h r = by (f p) refl (picks_rise n f ps (λ q x i. h q x (inr i)) r.1)
  where
    before : (x y : List ℕ) → f p ≡ Some x → Has (filter_map f ps) y → IsBefore x y
    before x y e k =
        let q = picked_has f ps y k in
        let i = h p x (inl refl) e in
        let j = h q.0 y (inr q.1) q.2 in
        subst (λ v. IsBefore v y) (sym i.0.1) (subst (IsBefore (p ++ i.0.0)) (sym j.0.1) (before_by p q.0 i.0.0 j.0.0 (Each-has (IsBefore p) ps q.0 r.0 q.1) (i.1 ∙ sym j.1)))

    by : (o : Option (List ℕ)) → f p ≡ o → IsRising (filter_map f ps) → IsRising (cons_option o (filter_map f ps))
    by None e k = k
    by (Some x) e k = (Each-from_has (IsBefore x) (filter_map f ps) (λ y i. before x y e i), k)

-- where `a && b` is true, a is true
and_left : (a b : Bool) → a && b ≡ true → a ≡ true
and_left true b h = refl
and_left false b h = h

-- where `a && b` is true, b is true
and_right : (a b : Bool) → a && b ≡ true → b ≡ true
and_right true b h = h
and_right false b h = absurd (let i : false ≡ true = h in cc i)

-- `a && b` is true where both are true
and_both : (a b : Bool) → a ≡ true → b ≡ true → a && b ≡ true
and_both true b h k = k
and_both false b h k = h

module _ {P : Type 0} (m : List (List ℕ × P)) (p : List ℕ) where
  -- a computed step from p is p and one nibble more
  step_is : (q : List ℕ) → Has (steps m p) q → (a : ℕ) × (q ≡ p ++ a ∷ [])
  step_is q h =
      let t = (filter_has (λ q. is_prefix p q && eqb (length q) (suc (length p))) (prefixes m) q h).1 in
      tail q (prefix_by_test p q (and_left _ _ t)) (eqb-true _ _ (and_right (is_prefix p q) _ t))
    where
      tail : (q : List ℕ) → IsPrefix p q → length q ≡ suc (length p) → (a : ℕ) × (q ≡ p ++ a ∷ [])
      tail q ([], e) n = absurd (let i = ap length e ∙ length-append p [] in let j : length {A = ℕ} [] ≡ 0 = refl in omega (arith, i, j, n))
      tail q (a ∷ [], e) n = (a, e)
      tail q (a ∷ (b ∷ r), e) n = absurd (let i = ap length e ∙ length-append p (a ∷ (b ∷ r)) in omega (arith, i, n))

  -- a prefix of a stored list that is p and one nibble more is among the computed steps
  is_step : (a : ℕ) → IsSomePrefix (IsStored m) (p ++ a ∷ []) → Has (steps m p) (p ++ a ∷ [])
  is_step a h = has_filter (λ q. is_prefix p q && eqb (length q) (suc (length p))) (prefixes m) (p ++ a ∷ []) (((prefixes_list m).exactly _).1 h)
      (and_both _ _ (is_prefix_true p (p ++ a ∷ []) (a ∷ [], refl)) (eq-eqb _ _ (length-append p (a ∷ []) ∙ omega arith)))

  -- a computed raw descendant is the shortest point that e is a prefix of
  found_descendant : (e x : List ℕ) → raw_descendant m e ≡ Some x → IsShortest (IsPoint (IsStored m)) e x
  found_descendant e x i = subst (λ o. IsRawDescendant (IsStored m) e o) i (raw_descendant_is m e)

  -- the shortest point that e is a prefix of is the computed raw descendant
  finds_descendant : (e x : List ℕ) → IsShortest (IsPoint (IsStored m)) e x → raw_descendant m e ≡ Some x
  finds_descendant e x l = by (raw_descendant m e) (raw_descendant_is m e)
    where
      by : (o : Option (List ℕ)) → IsRawDescendant (IsStored m) e o → o ≡ Some x
      by None n = absurd (n x l.member l.below)
      by (Some y) k = ap (λ c. Some c) (shortest_unique (IsStored m) e y x k l)

  -- the computed children of p are its children, by rising nibble
  pub children_are : AreChildren (IsStored m) p (children m p)
  children_are = record {
    rising = picks_rise (suc (length p)) (raw_descendant m) (steps m p) (λ q x h i. ((found_descendant q x i).below, long q h)) (filter_rises _ (prefixes m) (prefixes_list m).rising);
    exactly = λ x. (to x, from x);
  }
    where
      long : (q : List ℕ) → Has (steps m p) q → length q ≡ suc (length p)
      long q h = let r = step_is q h in let i = ap length r.1 ∙ length-append p (r.0 ∷ []) in omega (arith, i)

      to : (x : List ℕ) → Has (children m p) x → IsChild (IsStored m) p x
      to x h =
          let r = picked_has (raw_descendant m) (steps m p) x h in
          let s = step_is r.0 r.1 in (s.0, subst (λ v. IsShortest (IsPoint (IsStored m)) v x) s.1 (found_descendant r.0 x r.2))

      from : (x : List ℕ) → IsChild (IsStored m) p x → Has (children m p) x
      from x (a, l) = has_picked (raw_descendant m) (steps m p) (p ++ a ∷ []) x (is_step a (cons_not_empty p a [], reach)) (finds_descendant (p ++ a ∷ []) x l)
        where
          reach : IsReached (IsStored m) (p ++ a ∷ [])
          reach =
              let b = l.below in
              let r = reached_past (IsStored m) x p a b.0 (b.1 ∙ append_assoc p (a ∷ []) b.0) l.member in
              (r.0, r.1, prefix_through (p ++ a ∷ []) x r.0 b r.2)
