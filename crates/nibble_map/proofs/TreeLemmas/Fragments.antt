-- A node's fragment is what its path has beyond the longest point strictly above it.
use Rattle.nibble_map.specs.Answers.{IsFragment}
use Rattle.nibble_map.specs.Stored.{IsStored}
use Rattle.std.proofs.Common.{◌≡◌, ℕ, suc, ◌≤◌, ◌≢◌, ◌⊎◌, List, [], ◌∷◌, ◌++◌, length, refl, ap, sym, subst, ◌∙◌, inl, inr, append_assoc, append-nil, arith}
use Rattle.nibble_map.specs.Lists.{IsPrefix, Has, Each}
use Rattle.nibble_map.specs.Trees.{Forest, bare, grow, FragmentTree, Node, nodes, nodes_below, entries, paths, first, IsShaped}
use Rattle.nibble_map.proofs.ListLemmas.Cut.{cancel_front, cons_head}
use Rattle.nibble_map.proofs.TreeLemmas.Shape.{Under, At, At-headed, Under-headed}
use Rattle.nibble_map.proofs.ListLemmas.Members.{Has-cases, path_at}
use Rattle.nibble_map.proofs.ListLemmas.Parted.{prefix_length}
use Rattle.nibble_map.proofs.TreeLemmas.Points.{point_path, at_point}
use Rattle.nibble_map.proofs.ListLemmas.Rising.{Each-from_has}

-- a node at x has the fragment g
abbrev Step : {P : Type 0} → Forest P → List ℕ → List ℕ → Type 0
Step bare x g = ⊥
Step (grow f o children others) x g = ((x ≡ f) × (g ≡ f)) ⊎ (Under f (λ y. Step children y g) x ⊎ Step others x g)

-- where a node at x has a fragment, x leads to a node
step_at : {P : Type 0} (k : Forest P) (x g : List ℕ) → Step k x g → At k x
step_at bare x g s = absurd s
step_at (grow f o children others) x g (inl h) = inl ([], h.0 ∙ sym (append-nil f), inl refl)
step_at (grow f o children others) x g (inr (inl (y, e, h))) = inl (y, e, inr (step_at children y g h))
step_at (grow f o children others) x g (inr (inr h)) = inr (step_at others x g h)

-- y is the place above x: it is above, and so is no other that isn't above y too
abbrev IsParent : {P : Type 0} → Forest P → List ℕ → List ℕ → List ℕ → Type 0
IsParent k x g y = (x ≡ y ++ g) × (g ≢ []) × ((y ≡ []) ⊎ At k y) × ((z : List ℕ) → At k z → z ≢ x → IsPrefix z x → IsPrefix z y)

-- lists that begin with different nibbles
firsts_differ : (x z : List ℕ) (a b : ℕ) (v w : List ℕ) → x ≡ a ∷ v → z ≡ b ∷ w → a ≢ b → IsPrefix z x → ⊥
firsts_differ x z a b v w e h n (r, k) = n (cons_head (sym e ∙ k ∙ ap (λ l. l ++ r) h))

-- a node at x of a shaped forest has a place above it, from which its fragment leads to x
node_has_parent : {P : Type 0} (low : ℕ) (k : Forest P) (x g : List ℕ) → IsShaped low k → Step k x g → (y : List ℕ) × IsParent k x g y
node_has_parent low bare x g s h = absurd h
node_has_parent low (grow f o children others) x g s (inl h) = ([], (h.0 ∙ sym h.1, subst (λ v. v ≢ []) (sym h.1) s.0, inl refl, none))
  where
    none : (z : List ℕ) → At (grow f o children others) z → z ≢ x → IsPrefix z x → IsPrefix z []
    none z (inl (y, e, a)) n (r, k) = absurd (n (e ∙ ap (λ v. f ++ v) (no_more y (cancel_front f [] (y ++ r) (append-nil f ∙ sym h.0 ∙ k ∙ ap (λ v. v ++ r) e ∙ append_assoc f y r))) ∙ append-nil f ∙ sym h.0))
      where
        no_more : (y : List ℕ) → [] ≡ y ++ r → y ≡ []
        no_more [] e = refl
        no_more (b ∷ y) e = absurd (let c : [] ≡ b ∷ (y ++ r) = e in cc c)
    none z (inr a) n p =
        let u = At-headed (suc (first f)) others z s.4 a in
        let w = Under-headed f (λ y. y ≡ []) x s.0 ([], h.0 ∙ sym (append-nil f), refl) in
        absurd (firsts_differ x z (first f) u.0 w.0 u.1 w.1 u.2 (λ e. omega (arith, e, u.3)) p)
node_has_parent low (grow f o children others) x g s (inr (inr h)) =
    let r = node_has_parent (suc (first f)) others x g s.4 h in
    let u = At-headed (suc (first f)) others x s.4 (step_at others x g h) in
    (r.0, (r.1.0, r.1.1, elim r.1.2 [ inl e ↦ inl e | inr a ↦ inr (inr a) ], kept u r.1.3))
  where
    kept : {y : List ℕ} → ((a : ℕ) × (w : List ℕ) × (x ≡ a ∷ w) × (suc (first f) ≤ a)) → ((z : List ℕ) → At others z → z ≢ x → IsPrefix z x → IsPrefix z y) →
        (z : List ℕ) → At (grow f o children others) z → z ≢ x → IsPrefix z x → IsPrefix z y
    kept u g z (inr a) n p = g z a n p
    kept u g z (inl a) n p =
        let w = Under-headed f _ z s.0 a in absurd (firsts_differ x z u.0 (first f) u.1 w.0 u.2 w.1 (λ e. omega (arith, e, u.3)) p)
node_has_parent low (grow f o children others) x g s (inr (inl (y, e, h))) =
    let r = node_has_parent 0 children y g s.3 h in
    (f ++ r.0, (e ∙ ap (λ v. f ++ v) r.1.0 ∙ sym (append_assoc f r.0 g), r.1.1, inr (inl (r.0, refl, r.1.2)), kept r.0 r.1.3))
  where
    under : (y' : List ℕ) (z' : List ℕ) (t : List ℕ) → f ++ y' ≡ (f ++ z') ++ t → y' ≡ z' ++ t
    under y' z' t k = cancel_front f y' (z' ++ t) (k ∙ append_assoc f z' t)

    kept : (y' : List ℕ) → ((z : List ℕ) → At children z → z ≢ y → IsPrefix z y → IsPrefix z y') →
        (z : List ℕ) → At (grow f o children others) z → z ≢ x → IsPrefix z x → IsPrefix z (f ++ y')
    kept y' g' z (inl (z', k, inl m)) n p = (y', ap (λ v. v ++ y') (sym (k ∙ ap (λ v. f ++ v) m ∙ append-nil f)))
    kept y' g' z (inl (z', k, inr a)) n (t, j) =
        let q = g' z' a (λ i. n (k ∙ ap (λ v. f ++ v) i ∙ sym e)) (t, under y z' t (sym e ∙ j ∙ ap (λ v. v ++ t) k)) in
        (q.0, ap (λ v. f ++ v) q.1 ∙ sym (append_assoc f z' q.0) ∙ ap (λ v. v ++ q.0) (sym k))
    kept y' g' z (inr a) n p =
        let u = At-headed (suc (first f)) others z s.4 a in
        let w = Under-headed f (λ v. v ≡ y) x s.0 (y, e, refl) in
        absurd (firsts_differ x z (first f) u.0 w.0 u.1 w.1 u.2 (λ i. omega (arith, i, u.3)) p)

-- a node of k below q has as its path q and a list that leads to it in k, with its fragment
node_step : {P : Type 0} (q : List ℕ) (k : Forest P) (n : Node P) → Has (nodes_below q k) n → Under q (λ x. Step k x n.fragment) n.path
node_step q bare n h = absurd h
node_step q (grow f o children others) n (inl e) = (f, ap (λ v. v.path) e, inl (refl, ap (λ v. v.fragment) e))
node_step q (grow f o children others) n (inr h) =
    elim (Has-cases (nodes_below (q ++ f) children) (nodes_below q others) n h) [
      | inl k ↦ let r = node_step (q ++ f) children n k in (f ++ r.0, r.1 ∙ append_assoc q f r.0, inr (inl (r.0, refl, r.2)))
      | inr k ↦ let r = node_step q others n k in (r.0, r.1, inr (inr r.2))
    ]

-- a list with something put after it isn't itself
not_whole : (y g : List ℕ) → g ≢ [] → y ≢ y ++ g
not_whole y g n e = n (sym (cancel_front y [] g (append-nil y ∙ e)))

-- the fragment of a shaped tree's node is what its path has beyond the longest point above
pub node_fragment : {P : Type 0} (t : FragmentTree P) → IsShaped 0 t.children → (n : Node P) → Has (nodes t) n → IsFragment (IsStored (entries (nodes t))) n.path n.fragment
node_fragment t s n (inl e) = inl (ap (λ v. v.path) e, ap (λ v. v.fragment) e)
node_fragment t s n (inr h) = go (node_step [] t.children n h)
  where
    above : (x y : List ℕ) → ((z : List ℕ) → At t.children z → z ≢ x → IsPrefix z x → IsPrefix z y) → (z : List ℕ) → z ≢ x → IsPrefix z x →
        Has (paths (nodes t)) z → length z ≤ length y
    above x y g z n p (inl e) = let a = ap length e in omega (arith, a)
    above x y g z n p (inr h) = let r = path_at [] t.children z h in prefix_length z y (g z (subst (At t.children) (sym r.1) r.2) n p)

    go : Under [] (λ x. Step t.children x n.fragment) n.path → IsFragment (IsStored (entries (nodes t))) n.path n.fragment
    go (x, e, h) =
        let r = node_has_parent 0 t.children n.path n.fragment s (subst (λ v. Step t.children v n.fragment) (sym e) h) in
        inr (
          r.0,
          record {
            member = (at_point t s r.0 r.1.2, λ i. not_whole r.0 n.fragment r.1.1 (i ∙ r.1.0));
            above = (n.fragment, r.1.0);
            longest = λ z i p. above n.path r.0 r.1.3 z i.1 p (point_path t s z i.0);
          },
          r.1.0,
        )

-- each node of a shaped tree has the fragment that the points of its entries give its path
pub tree_fragments : {P : Type 0} (t : FragmentTree P) → IsShaped 0 t.children → Each (λ n. IsFragment (IsStored (entries (nodes t))) n.path n.fragment) (nodes t)
tree_fragments t s = Each-from_has _ (nodes t) (node_fragment t s)
