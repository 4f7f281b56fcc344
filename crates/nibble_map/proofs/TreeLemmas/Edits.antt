-- What one change of a node makes of the entries.
use Rattle.std.proofs.Common.{◌≡◌, ℕ, suc, ◌≤◌, ◌≢◌, ◌⊎◌, ◌↔◌, List, [], ◌∷◌, ◌++◌, Option, Some, None, refl, ap, sym, subst, ◌∙◌, inl, inr, append_assoc, append-nil, arith}
use Rattle.nibble_map.specs.Trees.{Forest, bare, grow, IsShaped, first}
use Rattle.nibble_map.proofs.ListLemmas.Cut.{cancel_front, cons_head, cons_not_empty}
use Rattle.nibble_map.proofs.TreeLemmas.Shape.{Under, Under-headed}

-- the entry w stands at x, seen from the forest's place
abbrev pub Holds : {P : Type 0} → Forest P → List ℕ → P → Type 0
Holds bare x w = ⊥
Holds (grow f o children others) x w = Under f (λ y. ((y ≡ []) × (o ≡ Some w)) ⊎ Holds children y w) x ⊎ Holds others x w

-- the same in one tree
-- the entry w stands at x in the tree with fragment f, pair o and these children
abbrev pub Bears : {P : Type 0} → List ℕ → Option P → Forest P → List ℕ → P → Type 0
Bears f o children x w = Under f (λ y. ((y ≡ []) × (o ≡ Some w)) ⊎ Holds children y w) x

-- at r, E' has what C says; elsewhere it has what E has
abbrev pub Changes : {P : Type 0} → (List ℕ → P → Type 0) → (List ℕ → P → Type 0) → List ℕ → (P → Type 0) → Type 0
Changes {P} E E' r C = (x : List ℕ) (w : P) → E' x w ↔ (((x ≡ r) × C w) ⊎ ((x ≢ r) × E x w))

-- a list at which a shaped forest holds an entry begins with a nibble that is at least `low`
pub Holds-headed : {P : Type 0} (low : ℕ) (k : Forest P) (x : List ℕ) (w : P) → IsShaped low k → Holds k x w → (a : ℕ) × (v : List ℕ) × (x ≡ a ∷ v) × (low ≤ a)
Holds-headed low bare x w s i = absurd i
Holds-headed low (grow f o children others) x w s (inl u) = let r = Under-headed f _ x s.0 u in (first f, r.0, r.1, s.1)
Holds-headed low (grow f o children others) x w s (inr i) = let r = Holds-headed (suc (first f)) others x w s.4 i in (r.0, r.1, r.2, omega (arith, s.1, r.3))

-- a shaped forest holds no entry at its own place
pub none_here : {P : Type 0} (low : ℕ) (k : Forest P) (w : P) → IsShaped low k → Holds k [] w → ⊥
none_here low k w s h = let r = Holds-headed low k [] w s h in cons_not_empty [] r.0 r.1 (sym r.2)

-- a node without a pair and with one child bears what the two joined bear: split and merge
pub merged_bears_same : {P : Type 0} (f g : List ℕ) (p : Option P) (ls : Forest P) (x : List ℕ) (w : P) → Bears f None (grow g p ls bare) x w ↔ Bears (f ++ g) p ls x w
merged_bears_same f g p ls x w = (to, from)
  where
    to : Bears f None (grow g p ls bare) x w → Bears (f ++ g) p ls x w
    to (y, e, inl n) = absurd (let i : None ≡ Some w = n.1 in cc i)
    to (y, e, inr (inl (z, e', h))) = (z, e ∙ ap (λ v. f ++ v) e' ∙ sym (append_assoc f g z), h)
    to (y, e, inr (inr h)) = absurd h

    from : Bears (f ++ g) p ls x w → Bears f None (grow g p ls bare) x w
    from (z, e, h) = (g ++ z, e ∙ append_assoc f g z, inr (inl (z, refl, h)))

-- a node's own pair
-- another pair of a node changes what the tree bears at its fragment, and nowhere else
pub own_pair_changes : {P : Type 0} (f : List ℕ) (o o' : Option P) (children : Forest P) → IsShaped 0 children → Changes (Bears f o children) (Bears f o' children) f (λ w. o' ≡ Some w)
own_pair_changes {P} f o o' children s x w = (to, from)
  where
    to : Bears f o' children x w → ((x ≡ f) × (o' ≡ Some w)) ⊎ ((x ≢ f) × Bears f o children x w)
    to (y, e, inl n) = inl (e ∙ ap (λ v. f ++ v) n.0 ∙ append-nil f, n.1)
    to (y, e, inr h) = inr ((λ i. none_here 0 children w s (subst (λ v. Holds children v w) (cancel_front f y [] (sym e ∙ i ∙ sym (append-nil f))) h)), (y, e, inr h))

    from : (((x ≡ f) × (o' ≡ Some w)) ⊎ ((x ≢ f) × Bears f o children x w)) → Bears f o' children x w
    from (inl n) = ([], n.0 ∙ sym (append-nil f), inl (refl, n.1))
    from (inr (n, (y, e, inl m))) = absurd (n (e ∙ ap (λ v. f ++ v) m.0 ∙ append-nil f))
    from (inr (n, (y, e, inr h))) = (y, e, inr h)

-- a change among the children
-- a change of the children at r is a change of the tree at its fragment and r
pub child_change_lifts : {P : Type 0} (f : List ℕ) (o : Option P) (children children' : Forest P) (r : List ℕ) (C : P → Type 0) → r ≢ [] →
    Changes (Holds children) (Holds children') r C → Changes (Bears f o children) (Bears f o children') (f ++ r) C
child_change_lifts f o children children' r C n c x w = (to, from)
  where
    to : Bears f o children' x w → ((x ≡ f ++ r) × C w) ⊎ ((x ≢ f ++ r) × Bears f o children x w)
    to (y, e, inl m) = inr ((λ i. n (sym (cancel_front f y r (sym e ∙ i)) ∙ m.0)), (y, e, inl m))
    to (y, e, inr h) = elim ((c y w).0 h) [
      | inl k ↦ inl (e ∙ ap (λ v. f ++ v) k.0, k.1)
      | inr k ↦ inr ((λ i. k.0 (cancel_front f y r (sym e ∙ i))), (y, e, inr k.1))
    ]

    from : (((x ≡ f ++ r) × C w) ⊎ ((x ≢ f ++ r) × Bears f o children x w)) → Bears f o children' x w
    from (inl k) = (r, k.0, inr ((c r w).1 (inl (refl, k.1))))
    from (inr (m, (y, e, inl k))) = (y, e, inl k)
    from (inr (m, (y, e, inr h))) = (y, e, inr ((c y w).1 (inr ((λ i. m (e ∙ ap (λ v. f ++ v) i)), h))))

-- a change in the first tree, at a list that begins as its fragment does
-- a change of the first tree, at a list that begins as its fragment, is one of the forest
pub change_in_tree : {P : Type 0} (f : List ℕ) (o : Option P) (children : Forest P) (g : List ℕ) (p : Option P) (ls others : Forest P) (b : ℕ) (r : List ℕ) (C : P → Type 0) →
    IsShaped (suc b) others → Changes (Bears f o children) (Bears g p ls) (b ∷ r) C →
    Changes (Holds (grow f o children others)) (Holds (grow g p ls others)) (b ∷ r) C
change_in_tree f o children g p ls others b r C s c x w = (to, from)
  where
    apart : Holds others x w → x ≢ b ∷ r
    apart h i = let a = Holds-headed (suc b) others x w s h in omega (arith, cons_head (sym i ∙ a.2), a.3)

    to : Holds (grow g p ls others) x w → ((x ≡ b ∷ r) × C w) ⊎ ((x ≢ b ∷ r) × Holds (grow f o children others) x w)
    to (inl h) = elim ((c x w).0 h) [ inl k ↦ inl k | inr k ↦ inr (k.0, inl k.1) ]
    to (inr h) = inr (apart h, inr h)

    from : (((x ≡ b ∷ r) × C w) ⊎ ((x ≢ b ∷ r) × Holds (grow f o children others) x w)) → Holds (grow g p ls others) x w
    from (inl k) = inl ((c x w).1 (inl k))
    from (inr (n, inl h)) = inl ((c x w).1 (inr (n, h)))
    from (inr (n, inr h)) = inr h

-- a change in the others, at a list that begins otherwise
-- a change of the other trees, at a list that begins otherwise, is one of the forest
pub change_in_others : {P : Type 0} (f : List ℕ) (o : Option P) (children others others' : Forest P) (b : ℕ) (r : List ℕ) (C : P → Type 0) →
    f ≢ [] → first f ≢ b → Changes (Holds others) (Holds others') (b ∷ r) C →
    Changes (Holds (grow f o children others)) (Holds (grow f o children others')) (b ∷ r) C
change_in_others f o children others others' b r C n ne c x w = (to, from)
  where
    apart : Bears f o children x w → x ≢ b ∷ r
    apart h i = let a = Under-headed f _ x n h in ne (cons_head (sym a.1 ∙ i))

    to : Holds (grow f o children others') x w → ((x ≡ b ∷ r) × C w) ⊎ ((x ≢ b ∷ r) × Holds (grow f o children others) x w)
    to (inl h) = inr (apart h, inl h)
    to (inr h) = elim ((c x w).0 h) [ inl k ↦ inl k | inr k ↦ inr (k.0, inr k.1) ]

    from : (((x ≡ b ∷ r) × C w) ⊎ ((x ≢ b ∷ r) × Holds (grow f o children others) x w)) → Holds (grow f o children others') x w
    from (inl k) = inr ((c x w).1 (inl k))
    from (inr (m, inl h)) = inl h
    from (inr (m, inr h)) = inr ((c x w).1 (inr (m, h)))

-- a new leaf
-- a new leaf put first changes what the forest holds at its fragment, and nowhere else
pub new_leaf : {P : Type 0} (k : Forest P) (b : ℕ) (r : List ℕ) (v : P) → IsShaped (suc b) k →
    Changes (Holds k) (Holds (grow (b ∷ r) (Some v) bare k)) (b ∷ r) (λ w. w ≡ v)
new_leaf {P} k b r v s x w = (to, from)
  where
    same : {c d : P} → Some c ≡ Some d → d ≡ c
    same e = cc

    to : Holds (grow (b ∷ r) (Some v) bare k) x w → ((x ≡ b ∷ r) × (w ≡ v)) ⊎ ((x ≢ b ∷ r) × Holds k x w)
    to (inl (y, e, inl m)) = inl (e ∙ ap (λ u. b ∷ (r ++ u)) m.0 ∙ append-nil (b ∷ r), same m.1)
    to (inl (y, e, inr h)) = absurd h
    to (inr h) = inr ((λ i. let a = Holds-headed (suc b) k x w s h in omega (arith, cons_head (sym i ∙ a.2), a.3)), h)

    from : (((x ≡ b ∷ r) × (w ≡ v)) ⊎ ((x ≢ b ∷ r) × Holds k x w)) → Holds (grow (b ∷ r) (Some v) bare k) x w
    from (inl m) = inl ([], m.0 ∙ sym (append-nil (b ∷ r)), inl (refl, ap (λ c. Some c) (sym m.1)))
    from (inr m) = inr m.1

-- a change between lists that bear the same
-- a change stays one where what is before and what is after are told in equal words
pub Changes-same : {P : Type 0} (D E E' F : List ℕ → P → Type 0) (r : List ℕ) (C : P → Type 0) →
    ((x : List ℕ) (w : P) → D x w ↔ E x w) → Changes E E' r C → ((x : List ℕ) (w : P) → E' x w ↔ F x w) → Changes D F r C
Changes-same D E E' F r C h c k x w = (
  (λ i. elim ((c x w).0 ((k x w).1 i)) [ inl m ↦ inl m | inr m ↦ inr (m.0, (h x w).1 m.1) ]),
  (λ i. (k x w).0 ((c x w).1 (elim i [ inl m ↦ inl m | inr m ↦ inr (m.0, (h x w).0 m.1) ]))),
)
