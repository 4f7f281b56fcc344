-- An entry can be put into a shaped forest so that it stays shaped.
use Rattle.std.proofs.Common.{◌≡◌, ℕ, suc, ◌≤◌, ◌≢◌, ◌⊎◌, ◌↔◌, List, [], ◌∷◌, ◌++◌, Option, Some, None, IsSome, refl, ap, sym, subst, ◌∙◌, inl, inr, append-nil, arith}
use Rattle.std.proofs.lemmas.Bool.{cases_order}
use Rattle.nibble_map.specs.Trees.{Forest, bare, grow, AreMany, IsShaped, first}
use Rattle.nibble_map.proofs.ListLemmas.Cut.{cons_head, cons_not_empty}
use Rattle.nibble_map.proofs.TreeLemmas.Walked.{PassesWhole, EndsWithin, PartsWithin, along_says}
use Rattle.nibble_map.proofs.TreeLemmas.Edits.{Holds, Bears, Changes, merged_bears_same, own_pair_changes, child_change_lifts, change_in_tree, change_in_others, new_leaf, Changes-same}

-- a shaped forest that holds what k holds and v at b and r, and has many trees where k has
abbrev Entered : {P : Type 0} → ℕ → Forest P → ℕ → List ℕ → P → Type 0
Entered {P} low k b r v = (k' : Forest P) × IsShaped low k' × Changes (Holds k) (Holds k') (b ∷ r) (λ w. w ≡ v) × (AreMany k → AreMany k')

-- a shaped tree with the first nibble b that bears what the tree bore, with v at b and r
abbrev Grafted : {P : Type 0} → List ℕ → Option P → Forest P → ℕ → List ℕ → P → Type 0
Grafted {P} f o children b r v = (g : List ℕ) × (p : Option P) × (ls : Forest P) × (g ≢ []) × (first g ≡ b) × (IsSome p ⊎ AreMany ls) × IsShaped 0 ls
    × Changes (Bears f o children) (Bears g p ls) (b ∷ r) (λ w. w ≡ v)

-- a change at r is a change at each list that is equal to r
pub Changes-at_list : {P : Type 0} (E E' : List ℕ → P → Type 0) (r s : List ℕ) (C : P → Type 0) → r ≡ s → Changes E E' r C → Changes E E' s C
Changes-at_list E E' r s C e c = subst (λ l. Changes E E' l C) e c

-- a change stays one where what it says is said in other words
pub Changes-saying : {P : Type 0} (E E' : List ℕ → P → Type 0) (r : List ℕ) (C D : P → Type 0) → ((w : P) → C w ↔ D w) → Changes E E' r C → Changes E E' r D
Changes-saying E E' r C D h c x w = (
  (λ i. elim ((c x w).0 i) [ inl m ↦ inl (m.0, (h w).0 m.1) | inr m ↦ inr m ]),
  (λ i. (c x w).1 (elim i [ inl m ↦ inl (m.0, (h w).1 m.1) | inr m ↦ inr m ])),
)

-- options that hold v and w are equal exactly where w is v
pub Some_equal_iff : {P : Type 0} (v w : P) → (Some v ≡ Some w) ↔ (w ≡ v)
Some_equal_iff v w = (inner, λ e. ap (λ c. Some c) (sym e))
  where
    inner : Some v ≡ Some w → w ≡ v
    inner e = cc

-- two trees in order, of which one is a new leaf
-- a tree and a new leaf that begins otherwise make a shaped forest with two trees, in order
leaf_beside : {P : Type 0} (x : ℕ) (u : List ℕ) (o : Option P) (children : Forest P) (y : ℕ) (t : List ℕ) (v : P) → x ≢ y → IsShaped 0 (grow (x ∷ u) o children bare) →
    (k' : Forest P) × IsShaped 0 k' × Changes (Holds (grow (x ∷ u) o children bare)) (Holds k') (y ∷ t) (λ w. w ≡ v) × AreMany k'
leaf_beside {P} x u o children y t v n s =
    elim (cases_order x y) [
      | inl e ↦ absurd (n e)
      | inr c ↦ elim c [
        | inl l ↦ (
          grow (x ∷ u) o children (grow (y ∷ t) (Some v) bare bare),
          (s.0, omega arith, s.2, s.3, (cons_not_empty [] y t, l, inl refl, tt, tt)),
          change_in_others (x ∷ u) o children bare (grow (y ∷ t) (Some v) bare bare) y t (λ w. w ≡ v) s.0 n (new_leaf bare y t v tt),
          tt,
        )
        | inr l ↦ (
          grow (y ∷ t) (Some v) bare (grow (x ∷ u) o children bare),
          (cons_not_empty [] y t, omega arith, inl refl, tt, (s.0, l, s.2, s.3, tt)),
          new_leaf (grow (x ∷ u) o children bare) y t v (s.0, l, s.2, s.3, tt),
          tt,
        )
      ]
    ]

-- into one tree
-- an entry that begins as a tree's fragment can be put into the tree
graft_entry : {P : Type 0} (f : List ℕ) (o : Option P) (children : Forest P) (b : ℕ) (r : List ℕ) (v : P) → f ≢ [] → first f ≡ b → (IsSome o ⊎ AreMany children) → IsShaped 0 children →
    ((d : ℕ) (t : List ℕ) → Entered 0 children d t v) → (PassesWhole f (b ∷ r) (λ t. 0) ⊎ (EndsWithin f (b ∷ r) (λ t. 0) ⊎ PartsWithin f (b ∷ r) (λ t. 0))) → Grafted f o children b r v
graft_entry f o children b r v n e full s rec (inl ([], h, i)) = (
  f,
  Some v,
  children,
  n,
  e,
  inl refl,
  s,
  Changes-at_list (Bears f o children) (Bears f (Some v) children) f (b ∷ r) (λ w. w ≡ v) (sym (h ∙ append-nil f))
      (Changes-saying (Bears f o children) (Bears f (Some v) children) f (λ w. Some v ≡ Some w) (λ w. w ≡ v) (Some_equal_iff v) (own_pair_changes f o (Some v) children s)),
)
graft_entry f o children b r v n e full s rec (inl (d ∷ t, h, i)) =
    let k = rec d t in (
      f,
      o,
      k.0,
      n,
      e,
      elim full [ inl m ↦ inl m | inr m ↦ inr (k.3 m) ],
      k.1,
      Changes-at_list (Bears f o children) (Bears f o k.0) (f ++ d ∷ t) (b ∷ r) (λ w. w ≡ v) (sym h) (child_change_lifts f o children k.0 (d ∷ t) (λ w. w ≡ v) (cons_not_empty [] d t) k.2),
    )
graft_entry {P} f o children b r v n e full s rec (inr (inl (a, u, h, i))) = (
  b ∷ r,
  Some v,
  grow (a ∷ u) o children bare,
  cons_not_empty [] b r,
  refl,
  inl refl,
  (cons_not_empty [] a u, omega arith, full, s, tt),
  Changes-same (Bears f o children) (Bears (b ∷ r) None (grow (a ∷ u) o children bare)) (Bears (b ∷ r) (Some v) (grow (a ∷ u) o children bare)) (Bears (b ∷ r) (Some v) (grow (a ∷ u) o children bare)) (b ∷ r) (λ w. w ≡ v)
      split
      (Changes-saying _ _ (b ∷ r) (λ w. Some v ≡ Some w) (λ w. w ≡ v) (Some_equal_iff v) (own_pair_changes (b ∷ r) None (Some v) (grow (a ∷ u) o children bare) (cons_not_empty [] a u, omega arith, full, s, tt)))
      (λ x w. ((λ z. z), (λ z. z))),
)
  where
    split : (x : List ℕ) (w : P) → Bears f o children x w ↔ Bears (b ∷ r) None (grow (a ∷ u) o children bare) x w
    split x w = let m = merged_bears_same (b ∷ r) (a ∷ u) o children x w in
        ((λ z. m.1 (subst (λ l. Bears l o children x w) h z)), (λ z. subst (λ l. Bears l o children x w) (sym h) (m.0 z)))
graft_entry {P} f o children b r v n e full s rec (inr (inr (c, x, u, y, t, h, k, ne, i))) =
    let l = leaf_beside x u o children y t v ne (cons_not_empty [] x u, omega arith, full, s, tt) in (
      c,
      None,
      l.0,
      start c h k,
      firsts c h k,
      inr l.3,
      l.1,
      Changes-at_list (Bears f o children) (Bears c None l.0) (c ++ y ∷ t) (b ∷ r) (λ w. w ≡ v) (sym k)
          (Changes-same (Bears f o children) (Bears c None (grow (x ∷ u) o children bare)) (Bears c None l.0) (Bears c None l.0) (c ++ y ∷ t) (λ w. w ≡ v)
          split (child_change_lifts c None (grow (x ∷ u) o children bare) l.0 (y ∷ t) (λ w. w ≡ v) (cons_not_empty [] y t) l.2) (λ z w. ((λ q. q), (λ q. q)))),
    )
  where
    start : (c : List ℕ) → f ≡ c ++ x ∷ u → b ∷ r ≡ c ++ y ∷ t → c ≢ []
    start [] h k z = ne (sym (ap first h) ∙ e ∙ cons_head k)
    start (d ∷ c) h k z = cons_not_empty [] d c z

    firsts : (c : List ℕ) → f ≡ c ++ x ∷ u → b ∷ r ≡ c ++ y ∷ t → first c ≡ b
    firsts [] h k = absurd (ne (sym (ap first h) ∙ e ∙ cons_head k))
    firsts (d ∷ c) h k = sym (cons_head k)

    split : (z : List ℕ) (w : P) → Bears f o children z w ↔ Bears c None (grow (x ∷ u) o children bare) z w
    split z w = let m = merged_bears_same c (x ∷ u) o children z w in
        ((λ q. m.1 (subst (λ l. Bears l o children z w) h q)), (λ q. subst (λ l. Bears l o children z w) (sym h) (m.0 q)))

-- whether a forest has many trees doesn't depend on what its first tree is
many_same : {P : Type 0} (f g : List ℕ) (o p : Option P) (children ls others : Forest P) → AreMany (grow f o children others) → AreMany (grow g p ls others)
many_same f g o p children ls bare m = m
many_same f g o p children ls (grow h q ms others) m = tt

-- a first tree and others that hold an entry are many trees
many_now : {P : Type 0} (f : List ℕ) (o : Option P) (children others others' : Forest P) (b : ℕ) (r : List ℕ) (v : P) →
    Changes (Holds others) (Holds others') (b ∷ r) (λ w. w ≡ v) → AreMany (grow f o children others')
many_now f o children others bare b r v c = (c (b ∷ r) v).1 (inl (refl, refl))
many_now f o children others (grow g p ls k) b r v c = tt

-- an entry can be put into a shaped forest, at a list with a first nibble from `low` on
pub forest_takes_entry : {P : Type 0} (low : ℕ) (k : Forest P) (b : ℕ) (r : List ℕ) (v : P) → IsShaped low k → low ≤ b → Entered low k b r v
forest_takes_entry low bare b r v s l = (grow (b ∷ r) (Some v) bare bare, (cons_not_empty [] b r, l, inl refl, tt, tt), new_leaf bare b r v tt, λ m. m)
forest_takes_entry low (grow f o children others) b r v s l =
    elim (cases_order (first f) b) [
      | inl e ↦
          let g = graft_entry f o children b r v s.0 e s.2 s.3 (λ d t. forest_takes_entry 0 children d t v s.3 (omega arith)) (along_says f (b ∷ r) (λ t. 0)) in (
            grow g.0 g.1 g.2 others,
            (g.3, omega (arith, l, g.4), g.5, g.6, subst (λ n. IsShaped (suc n) others) (e ∙ sym g.4) s.4),
            change_in_tree f o children g.0 g.1 g.2 others b r (λ w. w ≡ v) (subst (λ n. IsShaped (suc n) others) e s.4) g.7,
            many_same f g.0 o g.1 children g.2 others,
          )
      | inr c ↦ elim c [
        | inl h ↦
            let q = forest_takes_entry (suc (first f)) others b r v s.4 h in (
              grow f o children q.0,
              (s.0, s.1, s.2, s.3, q.1),
              change_in_others f o children others q.0 b r (λ w. w ≡ v) s.0 (λ e. omega (arith, e, h)) q.2,
              λ m. many_now f o children others q.0 b r v q.2,
            )
        | inr h ↦ (
          grow (b ∷ r) (Some v) bare (grow f o children others),
          (cons_not_empty [] b r, l, inl refl, tt, (s.0, h, s.2, s.3, s.4)),
          new_leaf (grow f o children others) b r v (s.0, h, s.2, s.3, s.4),
          λ m. tt,
        )
      ]
    ]
