-- Children that hold the same lists, with equal pairs, pass the test.
use Rattle.std.proofs.Common.{◌≡◌, ℕ, suc, ◌≤◌, ◌⊎◌, Bool, true, List, [], ◌∷◌, ◌++◌, Option, Some, None, IsSome, refl, ap, sym, subst, ◌∙◌, inl, inr, arith, append_assoc, append-nil}
use Rattle.std.specs.Cmp.Lexicographic.{bytes_decides}
use Rattle.std.proofs.lemmas.Bool.{and_from}
use Rattle.masked_tree.specs.Tree.{Children, none, more, plain, entries_in}
use Rattle.masked_tree.specs.Same.{same_pair, same_children}
use Rattle.nibble_map.specs.Lists.{Has, IsPrefix}
use Rattle.nibble_map.specs.Swaps.{entry}
use Rattle.nibble_map.specs.Trees.{Forest, grow, IsShaped, first}
use Rattle.nibble_map.proofs.ListLemmas.Cut.{cancel_front, cons_head}
use Rattle.nibble_map.proofs.ListLemmas.Members.{Has-left, Has-right, Has-cases, Has-entry_some}
use Rattle.nibble_map.proofs.ListLemmas.Parted.{prefix_is_whole, prefix_length}
use Rattle.nibble_map.proofs.TreeLemmas.Shape.{Under, In, At, Parts, Parts-more, Under-headed, In-headed, At-headed, at_entry_or_branch_point, entry_has_node, branch_point_has_node, first_tree_has_entry}
use Rattle.nibble_map.proofs.MapLemmas.SameTests.{anything_of_false}

-- Nodes stand where entries are or part, so the same stored lists make the same nodes.
at_moves : {P Q : Type 0} (low low' : ℕ) (k : Forest P) (l : Forest Q) → IsShaped low k → IsShaped low' l → ((x : List ℕ) → In k x → In l x) →
    (x : List ℕ) → At k x → At l x
at_moves low low' k l s s' h x a =
    let r = At-headed low k x s a in
    elim (at_entry_or_branch_point low k x s a) [
      | inl i ↦ entry_has_node l x (h x i)
      | inr p ↦ subst (At l) (sym r.2) (branch_point_has_node low' l r.0 r.1 s' (subst (Parts (In l)) r.2 (Parts-more (In k) (In l) x h p)))
    ]

-- the node of a first child is another forest's first child's, below it, or further on
first_at : {P : Type 0} (low : ℕ) (g : List ℕ) (o : Option P) (children others : Forest P) (f : List ℕ) → IsShaped low (grow g o children others) → At (grow g o children others) f →
    IsPrefix g f ⊎ (suc (first g) ≤ first f)
first_at low g o children others f s (inl u) = inl (u.0, u.1)
first_at low g o children others f s (inr a) = inr (let r = At-headed (suc (first g)) others f s.4 a in subst (λ x. suc (first g) ≤ first x) (sym r.2) r.3)

-- a list begins with the first nibble of its prefix, if that isn't empty
same_first : (f g : List ℕ) → (f ≡ [] → ⊥) → IsPrefix f g → first g ≡ first f
same_first [] g n h = absurd (n refl)
same_first (a ∷ f) g n (r, e) = ap first e

-- two fragments are equal where each is a prefix of the other or begins higher than it
same_fragment : (f g : List ℕ) → (f ≡ [] → ⊥) → (g ≡ [] → ⊥) → IsPrefix g f ⊎ (suc (first g) ≤ first f) → IsPrefix f g ⊎ (suc (first f) ≤ first g) → f ≡ g
same_fragment f g n n' (inl h) (inl k) = sym (prefix_is_whole g f h (prefix_length f g k))
same_fragment f g n n' (inl h) (inr k) = absurd (let e = same_first g f n' h in omega (arith, e, k))
same_fragment f g n n' (inr h) (inl k) = absurd (let e = same_first f g n k in omega (arith, e, h))
same_fragment f g n n' (inr h) (inr k) = absurd (omega (arith, h, k))

-- what two forests whose first children have the same fragment share, they share part by part
module _ {P Q : Type 0} (low low' : ℕ) (f : List ℕ) (o : Option P) (children others : Forest P) (p : Option Q) (ls rest : Forest Q)
    (s : IsShaped low (grow f o children others)) (s' : IsShaped low' (grow f p ls rest)) where
  -- what the second forest holds behind the fragment is its first node's pair or below that node
  in_under : (y : List ℕ) → In (grow f p ls rest) (f ++ y) → ((y ≡ []) × IsSome p) ⊎ In ls y
  in_under y (inl (z, e, c)) = subst (λ y. ((y ≡ []) × IsSome p) ⊎ In ls y) (sym (cancel_front f y z e)) c
  in_under y (inr i) = absurd (further f s'.0 (In-headed (suc (first f)) rest (f ++ y) s'.4 i))
    where
      further : (g : List ℕ) → (g ≡ [] → ⊥) → (a : ℕ) × (w : List ℕ) × (g ++ y ≡ a ∷ w) × (suc (first g) ≤ a) → ⊥
      further [] n r = n refl
      further (c ∷ g) n (a, w, e, l) = let h = cons_head e in omega (arith, h, l)

  module _ (h : (x : List ℕ) → In (grow f o children others) x → In (grow f p ls rest) x) where
    -- where all lists of the first forest are in the second, so are those below the first node
    in_children : (y : List ℕ) → In children y → In ls y
    in_children y i = elim (in_under y (h (f ++ y) (inl (y, refl, inr i)))) [
      | inl n ↦ absurd (let r = In-headed 0 children y s.3 i in let e : [] ≡ r.0 ∷ r.1 = sym n.0 ∙ r.2 in cc e)
      | inr j ↦ j
    ]

    -- where all lists of the first forest are in the second, so are those of the later children
    in_others : (x : List ℕ) → In others x → In rest x
    in_others x i = elim (h x (inr i)) [
      | inl u ↦ absurd (let r = In-headed (suc (first f)) others x s.4 i in let v = Under-headed f _ x s'.0 u in let e = cons_head (sym r.2 ∙ v.1) in omega (arith, e, r.3))
      | inr j ↦ j
    ]

    -- where all lists of the first forest are in the second, so is that of the first node's pair
    in_top : IsSome o → IsSome p
    in_top i = elim (in_under [] (h (f ++ []) (inl ([], refl, inl (refl, i))))) [
      | inl n ↦ n.1
      | inr j ↦ absurd (let r = In-headed 0 ls [] s'.3 j in let e : [] ≡ r.0 ∷ r.1 = r.2 in cc e)
    ]

-- v is the pair at x below the children's parent
abbrev pub Holds : {P : Type 0} → Children P → List ℕ → P → Type 0
Holds none x v = ⊥
Holds (more f o m children others) x v = Under f (λ y. ((y ≡ []) × (o ≡ Some v)) ⊎ Holds children y v) x ⊎ Holds others x v

module _ {P : Type 0} where
  -- an option that is some is a value
  pub some_is : (o : Option P) → IsSome o → (v : P) × (o ≡ Some v)
  some_is None i = anything_of_false i
  some_is (Some v) i = (v, refl)

  -- an option that is a value is some
  pub is_some : (o : Option P) (v : P) → o ≡ Some v → IsSome o
  is_some o v e = subst IsSome (sym e) refl

  -- at each list that is in the children, a pair is held
  pub in_holds : (k : Children P) (x : List ℕ) → In (plain k) x → (v : P) × Holds k x v
  in_holds none x i = absurd i
  in_holds (more f o m children others) x (inl (y, e, inl n)) = let r = some_is o n.1 in (r.0, inl (y, e, inl (n.0, r.1)))
  in_holds (more f o m children others) x (inl (y, e, inr i)) = let r = in_holds children y i in (r.0, inl (y, e, inr r.1))
  in_holds (more f o m children others) x (inr i) = let r = in_holds others x i in (r.0, inr r.1)

  -- each list at which a pair is held is in the children
  pub holds_in : (k : Children P) (x : List ℕ) (v : P) → Holds k x v → In (plain k) x
  holds_in none x v i = absurd i
  holds_in (more f o m children others) x v (inl (y, e, inl n)) = inl (y, e, inl (n.0, is_some o v n.1))
  holds_in (more f o m children others) x v (inl (y, e, inr i)) = inl (y, e, inr (holds_in children y v i))
  holds_in (more f o m children others) x v (inr i) = inr (holds_in others x v i)

  -- what the entry at a path has is that path and the pair there
  pub has_entry : (q p : List ℕ) (o : Option P) (v : P) → Has (entry p o) (q, v) → (q ≡ p) × (o ≡ Some v)
  has_entry q p None v h = absurd h
  has_entry q p (Some x) v (inl e) = (ap (λ (z : List ℕ × P). z.0) e, ap (λ (z : List ℕ × P). Some z.1) (sym e))
  has_entry q p (Some x) v (inr h) = absurd h

  -- each pair held below is an entry, its list behind the children's path
  pub holds_has : (q : List ℕ) (k : Children P) (x : List ℕ) (v : P) → Holds k x v → Has (entries_in q k) (q ++ x, v)
  holds_has q none x v h = absurd h
  holds_has q (more f o m children others) x v (inl (y, e, inl n)) =
      Has-left _ _ _ (Has-left _ _ _ (subst (λ p. Has (entry (q ++ f) o) (p, v)) (ap (λ z. q ++ z) (sym (append-nil f) ∙ ap (λ z. f ++ z) (sym n.0) ∙ sym e)) (Has-entry_some (q ++ f) o v n.1)))
  holds_has q (more f o m children others) x v (inl (y, e, inr h)) =
      Has-left _ _ _ (Has-right (entry (q ++ f) o) _ _ (subst (λ p. Has (entries_in (q ++ f) children) (p, v)) (append_assoc q f y ∙ ap (λ z. q ++ z) (sym e)) (holds_has (q ++ f) children y v h)))
  holds_has q (more f o m children others) x v (inr h) = Has-right (entry (q ++ f) o ++ entries_in (q ++ f) children) _ _ (holds_has q others x v h)

  -- each entry of the children is a pair held below, its list behind the children's path
  pub has_holds : (q : List ℕ) (k : Children P) (p : List ℕ) (v : P) → Has (entries_in q k) (p, v) → Under q (λ x. Holds k x v) p
  has_holds q none p v h = absurd h
  has_holds q (more f o m children others) p v h =
      elim (Has-cases (entry (q ++ f) o ++ entries_in (q ++ f) children) _ _ h) [
        | inl a ↦ elim (Has-cases (entry (q ++ f) o) _ _ a) [
          | inl b ↦ let r = has_entry p (q ++ f) o v b in (f, r.0, inl ([], sym (append-nil f), inl (refl, r.1)))
          | inr b ↦ let r = has_holds (q ++ f) children p v b in (f ++ r.0, r.1 ∙ append_assoc q f r.0, inl (r.0, refl, inr r.2))
        ]
        | inr a ↦ let r = has_holds q others p v a in (r.0, r.1, inr r.2)
      ]

-- the same stored lists, with equal pairs, make like children
module _ {P : Type 0} (eq : P → P → Bool) where
  -- the pairs that stand at one list are equal
  abbrev Agree : Children P → Children P → Type 0
  Agree k l = (x : List ℕ) (v w : P) → Holds k x v → Holds l x w → eq v w ≡ true

  -- two pairs pass the test where both are there or neither, and their values are equal
  pub pairs_same : (o p : Option P) → (IsSome o → IsSome p) → (IsSome p → IsSome o) → ((v w : P) → o ≡ Some v → p ≡ Some w → eq v w ≡ true) → same_pair eq o p ≡ true
  pairs_same None None to from h = refl
  pairs_same None (Some y) to from h = from refl
  pairs_same (Some x) None to from h = to refl
  pairs_same (Some x) (Some y) to from h = h x y refl refl

  -- the same lists below both, with equal pairs
  abbrev Shares : Children P → Children P → Type 0
  Shares k l = ((x : List ℕ) → In (plain k) x → In (plain l) x) × ((x : List ℕ) → In (plain l) x → In (plain k) x) × Agree k l

  -- children with one first fragment pass the test where their parts that share pass it
  children_step : (low low' : ℕ) (f : List ℕ) (o : Option P) (m : ℕ) (children others : Children P) (p : Option P) (n : ℕ) (ls rest : Children P) →
      (Shares children ls → same_children eq children ls ≡ true) → (Shares others rest → same_children eq others rest ≡ true) →
      IsShaped low (plain (more f o m children others)) → IsShaped low' (plain (more f p n ls rest)) → Shares (more f o m children others) (more f p n ls rest) →
      same_children eq (more f o m children others) (more f p n ls rest) ≡ true
  children_step low low' f o m children others p n ls rest below beside s s' h =
      let k = plain children in let a = plain others in let l = plain ls in let b = plain rest in
      and_from _ _ (and_from _ _ ((bytes_decides f f).1 refl) (and_from _ _
      (pairs_same o p (in_top low low' f o k a p l b s s' h.0) (in_top low' low f p l b o k a s' s h.1)
      (λ v w e i. h.2 f v w (inl ([], sym (append-nil f), inl (refl, e))) (inl ([], sym (append-nil f), inl (refl, i)))))
      (below (in_children low low' f o k a p l b s s' h.0, in_children low' low f p l b o k a s' s h.1, λ x v w i j. h.2 (f ++ x) v w (inl (x, refl, inr i)) (inl (x, refl, inr j))))))
      (beside (in_others low low' f o k a p l b s s' h.0, in_others low' low f p l b o k a s' s h.1, λ x v w i j. h.2 x v w (inr i) (inr j)))

  -- shaped children that share lists and pairs pass the test
  pub children_same : (low low' : ℕ) (k l : Children P) → IsShaped low (plain k) → IsShaped low' (plain l) → Shares k l → same_children eq k l ≡ true
  children_same low low' none none s s' h = refl
  children_same low low' none (more g p n ls rest) s s' h = absurd (let r = first_tree_has_entry g p (plain ls) (plain rest) s'.0 s'.2 s'.3 in h.1 _ r.1)
  children_same low low' (more f o m children others) none s s' h = absurd (let r = first_tree_has_entry f o (plain children) (plain others) s.0 s.2 s.3 in h.0 _ r.1)
  children_same low low' (more f o m children others) (more g p n ls rest) s s' h =
      subst (λ g. IsShaped low' (plain (more g p n ls rest)) → Shares (more f o m children others) (more g p n ls rest) → same_children eq (more f o m children others) (more g p n ls rest) ≡ true) one
      (children_step low low' f o m children others p n ls rest (children_same 0 0 children ls s.3 s'.3) (children_same (suc (first f)) (suc (first g)) others rest s.4 s'.4) s) s' h
    where
      here : {Q : Type 0} (f : List ℕ) (o : Option Q) (children others : Forest Q) → At (grow f o children others) f
      here f o children others = inl ([], sym (append-nil f), inl refl)

      one : f ≡ g
      one = same_fragment f g s.0 s'.0
          (first_at low' g p (plain ls) (plain rest) f s' (at_moves low low' (plain (more f o m children others)) (plain (more g p n ls rest)) s s' h.0 f (here f o (plain children) (plain others))))
          (first_at low f o (plain children) (plain others) g s (at_moves low' low (plain (more g p n ls rest)) (plain (more f o m children others)) s' s h.1 g (here g p (plain ls) (plain rest))))
