-- Nodes by their paths, seen from a node and from its child.
use Rattle.std.proofs.Common.{◌≡◌, ◌≢◌, ℕ, zero, suc, ◌+◌, ◌≤◌, cond, ◌==◌, List, [], ◌∷◌, ◌++◌, length, Option, Some, None, refl, ap, sym, subst, ◌∙◌, arith, inl, inr, append_assoc, append-nil, eq-eqb}
use Rattle.std.proofs.lemmas.Bool.Decides.{eqb_tells}
use Rattle.nibble_map.specs.Lists.{Has, IsPrefix}
use Rattle.nibble_map.specs.Stored.{IsStored}
use Rattle.nibble_map.specs.Swaps.{entry}
use Rattle.nibble_map.specs.Trees.{first}
use Rattle.masked_tree.specs.Mask.{bit_of}
use Rattle.masked_tree.specs.Tree.{Tree, Children, none, more, IsAt, firsts, IsPlaced, IsTreePlaced, entries_in, entries_at}
use Rattle.masked_tree.specs.Paths.{IsChildAt, IsNodeAt, IsHeld, IsStuck, reach}
use Rattle.nibble_map.proofs.ListLemmas.Cut.{cancel_front, cons_not_empty, first-append}
use Rattle.nibble_map.proofs.TreeLemmas.Shape.{first_and_rest}
use Rattle.nibble_map.proofs.ListLemmas.Members.{Has-left, Has-right, Has-cases, Has-entry_some}
use Rattle.masked_tree.proofs.TreeLemmas.Children.{child_begins_from}

-- the test of two equal numbers chooses the first
one_either : (a b n : ℕ) → a ≡ b → cond (a == b) 1 n ≡ 1
one_either a b n e = rw (eq-eqb a b e) refl

-- where a list with another behind it is the list itself, the other is empty
pub nothing_appended : (f x : List ℕ) → f ++ x ≡ f → x ≡ []
nothing_appended f x e = cancel_front f x [] (e ∙ sym (append-nil f))

-- a list begins with the first nibble of its prefix, if that isn't empty
prefix_headed : (x rest w : List ℕ) (a b : ℕ) → x ≡ a ∷ w → IsPrefix x rest → first rest ≡ b → a ≡ b
prefix_headed x rest w a b e p i = sym (ap first (p.1 ∙ ap (λ z. z ++ p.0) e)) ∙ i

-- none is no value
pub none_is_not_some : {P : Type 0} {v : P} → None ≡ Some v → ⊥
none_is_not_some e = cc e

module _ {P : Type 0} where
  -- a path below begins with the first nibble of a child
  pub child_headed : (low : ℕ) (k : Children P) (x : List ℕ) (u : Tree P) → IsPlaced low k → IsChildAt k x u →
      (a : ℕ) × (w : List ℕ) × (x ≡ a ∷ w) × (low ≤ a) × (bit_of a (firsts k) ≡ 1)
  child_headed low none x u h i = absurd i
  child_headed low (more f o m children others) x u h (inl i) =
      let r = first_and_rest f h.0 in (first f, r.0, i.0 ∙ r.1, h.1, one_either (first f) (first f) _ refl)
  child_headed low (more f o m children others) x u h (inr (inl i)) =
      let r = first_and_rest f h.0 in (first f, r.0 ++ i.0, i.1 ∙ ap (λ g. g ++ i.0) r.1, h.1, one_either (first f) (first f) _ refl)
  child_headed low (more f o m children others) x u h (inr (inr i)) =
      let r = child_headed (suc (first f)) others x u h.4 i in
      (r.0, r.1, r.2, omega (arith, h.1, r.3), (elim (eqb_tells (first f) r.0) [ inl e ↦ rw e.0 refl | inr e ↦ rw e.0 r.4 ]))

  -- no node below has the empty path from its parent
  pub no_child_here : (k : Children P) (u : Tree P) → IsPlaced 0 k → IsChildAt k [] u → ⊥
  no_child_here k u h i = let r = child_headed 0 k [] u h i in cons_not_empty [] r.0 r.1 (sym r.2)

  -- what stands below a child
  -- a node of a child's tree stands at the same path among the children
  pub below_from_child : (i : ℕ) (k : Children P) (c : Tree P) (x : List ℕ) (u : Tree P) → IsAt i k c → IsNodeAt c x u → IsChildAt k x u
  below_from_child i none c x u a h = absurd a
  below_from_child zero (more f o m children others) c x u a h =
      let t : Tree P = record { fragment = f; pair = o; mask = m; children = children } in
      elim (subst (λ t. IsNodeAt t x u) a h) [ inl e ↦ inl e | inr e ↦ inr (inl e) ]
  below_from_child (suc i) (more f o m children others) c x u a h = inr (inr (below_from_child i others c x u a h))

  -- a path that begins as a child's fragment does stands below that child
  pub below_to_child : (low i : ℕ) (k : Children P) (c : Tree P) (x : List ℕ) (u : Tree P) → IsPlaced low k → IsAt i k c → IsChildAt k x u → first x ≡ first c.fragment → IsNodeAt c x u
  below_to_child low i none c x u h a d e = absurd a
  below_to_child low zero (more f o m children others) c x u h a (inl d) e = subst (λ t. IsNodeAt t x u) (sym a) (inl d)
  below_to_child low zero (more f o m children others) c x u h a (inr (inl d)) e = subst (λ t. IsNodeAt t x u) (sym a) (inr d)
  below_to_child low zero (more f o m children others) c x u h a (inr (inr d)) e =
      let r = child_headed (suc (first f)) others x u h.4 d in
      absurd (let z = ap first r.2 in let y = ap (λ (t : Tree P). first t.fragment) a in omega (arith, z, y, e, r.3))
  below_to_child low (suc i) (more f o m children others) c x u h a (inl d) e =
      absurd (let z = ap first d.0 in let y = child_begins_from (suc (first f)) i others c a h.4 in omega (arith, z, y, e))
  below_to_child low (suc i) (more f o m children others) c x u h a (inr (inl d)) e =
      absurd (let z = ap first d.1 ∙ first-append f d.0 h.0 in let y = child_begins_from (suc (first f)) i others c a h.4 in omega (arith, z, y, e))
  below_to_child low (suc i) (more f o m children others) c x u h a (inr (inr d)) e = below_to_child (suc (first f)) i others c x u h.4 a d e

  -- the node's own path
  -- at the path of a tree's own fragment stands the tree itself, and nothing else
  own_node : (t u : Tree P) → IsTreePlaced t → IsNodeAt t t.fragment u → u ≡ t
  own_node t u h (inl e) = e.1
  own_node t u h (inr e) = absurd (no_child_here t.children u h.1 (subst (λ y. IsChildAt t.children y u) (nothing_appended t.fragment e.0 (sym e.1)) e.2))

  module _ (t c : Tree P) (i : ℕ) (h : IsTreePlaced t) (a : IsAt i t.children c) where
    -- a node of a child's tree is one of the parent's, its path behind the parent's fragment
    pub node_from_child : (x : List ℕ) (u : Tree P) → IsNodeAt c x u → IsNodeAt t (t.fragment ++ x) u
    node_from_child x u d = inr (x, refl, below_from_child i t.children c x u a d)

    -- a node of the parent's tree whose path leads on into a child is one of the child's
    pub node_to_child : (x : List ℕ) (u : Tree P) → x ≢ [] → first x ≡ first c.fragment → IsNodeAt t (t.fragment ++ x) u → IsNodeAt c x u
    node_to_child x u s e (inl d) = absurd (s (nothing_appended t.fragment x d.0))
    node_to_child x u s e (inr d) = below_to_child 0 i t.children c x u h.1 a (subst (λ y. IsChildAt t.children y u) (sym (cancel_front t.fragment x d.0 d.1)) d.2) e

  -- pairs by the nodes that they stand at
  -- what the entry at a path has is that path and the pair there
  Has-entry : (p q : List ℕ) (o : Option P) (v : P) → Has (entry p o) (q, v) → (q ≡ p) × (o ≡ Some v)
  Has-entry p q None v h = absurd h
  Has-entry p q (Some w) v (inl e) = (ap (λ z. z.0) e, ap (λ z. Some z.1) (sym e))
  Has-entry p q (Some w) v (inr e) = absurd e

  -- each entry of the children is a pair of a node below, at the node's path
  has_child : (q : List ℕ) (k : Children P) (p : List ℕ) (v : P) → Has (entries_in q k) (p, v) → (x : List ℕ) × (u : Tree P) × (p ≡ q ++ x) × IsChildAt k x u × (u.pair ≡ Some v)
  has_child q none p v h = absurd h
  has_child q (more f o m children others) p v h =
      elim (Has-cases (entry (q ++ f) o ++ entries_in (q ++ f) children) (entries_in q others) (p, v) h) [
        | inl l ↦ elim (Has-cases (entry (q ++ f) o) (entries_in (q ++ f) children) (p, v) l) [
          | inl e ↦ (let r = Has-entry (q ++ f) p o v e in (f, record { fragment = f; pair = o; mask = m; children = children }, r.0, inl (refl, refl), r.1))
          | inr e ↦ (let r = has_child (q ++ f) children p v e in (f ++ r.0, r.1, r.2 ∙ append_assoc q f r.0, inr (inl (r.0, refl, r.3)), r.4))
        ]
        | inr e ↦ (let r = has_child q others p v e in (r.0, r.1, r.2, inr (inr r.3), r.4))
      ]

  -- each pair of a node below is an entry of the children, at the node's path
  child_has : (q : List ℕ) (k : Children P) (x : List ℕ) (u : Tree P) (v : P) → IsChildAt k x u → u.pair ≡ Some v → Has (entries_in q k) (q ++ x, v)
  child_has q none x u v i e = absurd i
  child_has q (more f o m children others) x u v (inl i) e =
      Has-left _ (entries_in q others) _ (Has-left _ (entries_in (q ++ f) children) _ (subst (λ y. Has (entry (q ++ f) o) (q ++ y, v)) (sym i.0) (Has-entry_some (q ++ f) o v (ap (λ (t : Tree P). t.pair) (sym i.1) ∙ e))))
  child_has q (more f o m children others) x u v (inr (inl i)) e =
      let r = child_has (q ++ f) children i.0 u v i.2 e in
      Has-left _ (entries_in q others) _ (Has-right (entry (q ++ f) o) _ _ (subst (λ y. Has (entries_in (q ++ f) children) (y, v)) (append_assoc q f i.0 ∙ ap (λ y. q ++ y) (sym i.1)) r))
  child_has q (more f o m children others) x u v (inr (inr i)) e = Has-right _ _ _ (child_has q others x u v i e)

  -- of a tree
  -- each entry of a tree is the pair of one of its nodes, at the node's path
  pub has_node : (t : Tree P) (p : List ℕ) (v : P) → Has (entries_at [] t) (p, v) → (u : Tree P) × IsNodeAt t p u × (u.pair ≡ Some v)
  has_node t p v h = elim (Has-cases (entry t.fragment t.pair) (entries_in t.fragment t.children) (p, v) h) [
    | inl e ↦ (let r = Has-entry t.fragment p t.pair v e in (t, inl (r.0, refl), r.1))
    | inr e ↦ (let r = has_child t.fragment t.children p v e in (r.1, inr (r.0, r.2, r.3), r.4))
  ]

  -- each pair of a tree's node is one of its entries, at the node's path
  pub node_has : (t : Tree P) (p : List ℕ) (u : Tree P) (v : P) → IsNodeAt t p u → u.pair ≡ Some v → Has (entries_at [] t) (p, v)
  node_has t p u v (inl i) e =
      Has-left _ (entries_in t.fragment t.children) _ (subst (λ q. Has (entry t.fragment t.pair) (q, v)) (sym i.0) (Has-entry_some t.fragment t.pair v (ap (λ (t : Tree P). t.pair) (sym i.1) ∙ e)))
  node_has t p u v (inr i) e = Has-right (entry t.fragment t.pair) _ _ (subst (λ q. Has (entries_in t.fragment t.children) (q, v)) (sym i.1) (child_has t.fragment t.children i.0 u v i.2 e))

  -- each stored list has an entry
  stored_has : (m : List (List ℕ × P)) (p : List ℕ) → IsStored m p → (v : P) × Has m (p, v)
  stored_has [] p h = absurd h
  stored_has (e ∷ m) p (inl i) = (e.1, inl (ap (λ q. (q, e.1)) i))
  stored_has (e ∷ m) p (inr h) = let r = stored_has m p h in (r.0, inr r.1)

  -- each entry's list is stored
  has_stored : (m : List (List ℕ × P)) (p : List ℕ) (v : P) → Has m (p, v) → IsStored m p
  has_stored [] p v h = absurd h
  has_stored (e ∷ m) p v (inl i) = inl (ap (λ z. z.0) i)
  has_stored (e ∷ m) p v (inr h) = inr (has_stored m p v h)

  -- where a pair is held at a path, a node with a pair stands there
  pub held_node : (t : Tree P) (p : List ℕ) → IsHeld t p → (u : Tree P) × (v : P) × IsNodeAt t p u × (u.pair ≡ Some v)
  held_node t p h = let s = stored_has (entries_at [] t) p h in let r = has_node t p s.0 s.1 in (r.0, s.0, r.1, r.2)

  -- where a node with a pair stands at a path, a pair is held there
  pub node_held : (t : Tree P) (p : List ℕ) (u : Tree P) (v : P) → IsNodeAt t p u → u.pair ≡ Some v → IsHeld t p
  node_held t p u v i e = has_stored (entries_at [] t) p v (node_has t p u v i e)

  -- seen from a child
  module _ (t c : Tree P) (i : ℕ) (h : IsTreePlaced t) (a : IsAt i t.children c) where
    -- what a child holds its parent holds, its path behind the parent's fragment
    pub held_from_child : (x : List ℕ) → IsHeld c x → IsHeld t (t.fragment ++ x)
    held_from_child x d = let r = held_node c x d in node_held t _ r.0 r.1 (node_from_child t c i h a x r.0 r.2) r.3

    -- what the parent holds at a path that leads on into a child, the child holds
    pub held_to_child : (x : List ℕ) → x ≢ [] → first x ≡ first c.fragment → IsHeld t (t.fragment ++ x) → IsHeld c x
    held_to_child x s e d = let r = held_node t _ d in node_held c x r.0 r.1 (node_to_child t c i h a x r.0 s e r.2) r.3

  -- the node's own pair
  -- a tree whose own pair is none holds nothing at its own path
  pub own_unheld : (t : Tree P) → IsTreePlaced t → t.pair ≡ None → IsHeld t t.fragment → ⊥
  own_unheld t h e d =
      let r = held_node t t.fragment d in
      let z = own_node t r.0 h r.2 in
      none_is_not_some (sym e ∙ ap (λ (t : Tree P). t.pair) (sym z) ∙ r.3)

  -- a tree with a pair of its own holds it at its own path
  pub own_held : (t : Tree P) (v : P) → t.pair ≡ Some v → IsHeld t t.fragment
  own_held t v e = node_held t t.fragment t v (inl (refl, refl)) e

  -- where no node is on the way, none is at its end
  pub stuck_free : (t : Tree P) (rest : List ℕ) → rest ≢ [] → IsStuck t rest → (u : Tree P) → IsNodeAt t (t.fragment ++ rest) u → ⊥
  stuck_free t rest s k u (inl d) = s (nothing_appended t.fragment rest d.0)
  stuck_free t rest s k u (inr d) = k d.0 u d.2 ([], cancel_front t.fragment rest d.0 d.1 ∙ sym (append-nil d.0))

  -- where no node is on the way, no pair is held at its end
  pub stuck_unheld : (t : Tree P) (rest : List ℕ) → rest ≢ [] → IsStuck t rest → IsHeld t (t.fragment ++ rest) → ⊥
  stuck_unheld t rest s k d = let r = held_node t _ d in stuck_free t rest s k r.0 r.2

  -- no child begins so
  -- where no child begins with the next nibble, no node below is on the way
  pub stuck_gap : (t : Tree P) (rest : List ℕ) → IsTreePlaced t → bit_of (first rest) (firsts t.children) ≡ 0 → IsStuck t rest
  stuck_gap t rest h b x u d p =
      let r = child_headed 0 t.children x u h.1 d in
      let e = prefix_headed x rest r.1 r.0 (first rest) r.2 p refl in
      let z = ap (λ n. bit_of n (firsts t.children)) e in omega (arith, z, r.4, b)

  -- the child that does goes another way
  -- where the child with the next nibble isn't a prefix of the list, no node below is on the way
  pub stuck_at_child : (t c : Tree P) (i : ℕ) (rest : List ℕ) → IsTreePlaced t → IsAt i t.children c → first rest ≡ first c.fragment → (IsPrefix c.fragment rest → ⊥) → IsStuck t rest
  stuck_at_child t c i rest h a e n x u d p =
      let r = child_headed 0 t.children x u h.1 d in
      let same : first x ≡ first c.fragment = ap first r.2 ∙ prefix_headed x rest r.1 r.0 (first rest) r.2 p refl ∙ e in
      n (through (below_to_child 0 i t.children c x u h.1 a d same))
    where
      through : IsNodeAt c x u → IsPrefix c.fragment rest
      through (inl m) = (p.0, p.1 ∙ ap (λ z. z ++ p.0) m.0)
      through (inr m) = (m.0 ++ p.0, p.1 ∙ ap (λ z. z ++ p.0) m.1 ∙ append_assoc c.fragment m.0 p.0)

  -- a path below is no longer than the longest
  -- the longest path through a child is no longer than the longest of all
  pub child_within_reach : (i : ℕ) (k : Children P) (c : Tree P) → IsAt i k c → length c.fragment + reach c.children ≤ reach k
  child_within_reach i none c a = absurd a
  child_within_reach zero (more f o m children others) c a = let e = ap (λ (t : Tree P). length t.fragment + reach t.children) a in omega (arith, e)
  child_within_reach (suc i) (more f o m children others) c a = omega (arith, child_within_reach i others c a)

  -- a path leads to one node
  one_child : (low : ℕ) (k : Children P) (x : List ℕ) (u v : Tree P) → IsPlaced low k → IsChildAt k x u → IsChildAt k x v → u ≡ v
  one_child low none x u v h i j = absurd i
  one_child low (more f o m children others) x u v h (inl i) (inl j) = i.1 ∙ sym j.1
  one_child low (more f o m children others) x u v h (inl i) (inr (inl j)) = absurd (no_child_here children v h.3 (subst (λ y. IsChildAt children y v) (nothing_appended f j.0 (sym j.1 ∙ i.0)) j.2))
  one_child low (more f o m children others) x u v h (inr (inl i)) (inl j) = absurd (no_child_here children u h.3 (subst (λ y. IsChildAt children y u) (nothing_appended f i.0 (sym i.1 ∙ j.0)) i.2))
  one_child low (more f o m children others) x u v h (inr (inl i)) (inr (inl j)) =
      one_child 0 children i.0 u v h.3 i.2 (subst (λ y. IsChildAt children y v) (cancel_front f j.0 i.0 (sym j.1 ∙ i.1)) j.2)
  one_child low (more f o m children others) x u v h (inr (inr i)) (inr (inr j)) = one_child (suc (first f)) others x u v h.4 i j
  one_child low (more f o m children others) x u v h (inl i) (inr (inr j)) =
      let r = child_headed (suc (first f)) others x v h.4 j in absurd (let a = ap first i.0 in let b = ap first r.2 in omega (arith, a, b, r.3))
  one_child low (more f o m children others) x u v h (inr (inr i)) (inl j) =
      let r = child_headed (suc (first f)) others x u h.4 i in absurd (let a = ap first j.0 in let b = ap first r.2 in omega (arith, a, b, r.3))
  one_child low (more f o m children others) x u v h (inr (inl i)) (inr (inr j)) =
      let r = child_headed (suc (first f)) others x v h.4 j in absurd (let a = ap first i.1 ∙ first-append f i.0 h.0 in let b = ap first r.2 in omega (arith, a, b, r.3))
  one_child low (more f o m children others) x u v h (inr (inr i)) (inr (inl j)) =
      let r = child_headed (suc (first f)) others x u h.4 i in absurd (let a = ap first j.1 ∙ first-append f j.0 h.0 in let b = ap first r.2 in omega (arith, a, b, r.3))

  -- at one path of a placed tree stands one node
  pub node_is_unique : (t : Tree P) (x : List ℕ) (u v : Tree P) → IsTreePlaced t → IsNodeAt t x u → IsNodeAt t x v → u ≡ v
  node_is_unique t x u v h (inl i) (inl j) = i.1 ∙ sym j.1
  node_is_unique t x u v h (inl i) (inr j) = absurd (no_child_here t.children v h.1 (subst (λ y. IsChildAt t.children y v) (nothing_appended t.fragment j.0 (sym j.1 ∙ i.0)) j.2))
  node_is_unique t x u v h (inr i) (inl j) = absurd (no_child_here t.children u h.1 (subst (λ y. IsChildAt t.children y u) (nothing_appended t.fragment i.0 (sym i.1 ∙ j.0)) i.2))
  node_is_unique t x u v h (inr i) (inr j) = one_child 0 t.children i.0 u v h.1 i.2 (subst (λ y. IsChildAt t.children y v) (cancel_front t.fragment j.0 i.0 (sym j.1 ∙ i.1)) j.2)
