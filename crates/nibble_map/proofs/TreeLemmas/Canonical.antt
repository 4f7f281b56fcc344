-- The local shape and the canonical form.
use Rattle.nibble_map.specs.Points.{IsBranchPoint, IsPoint}
use Rattle.std.proofs.Common.{◌≡◌, ℕ, ◌≢◌, ◌⊎◌, ◌↔◌, List, [], ◌∷◌, ◌++◌, Option, refl, ap, sym, subst, ◌∙◌, inl, inr, append-nil, arith}
use Rattle.nibble_map.specs.Lists.{Has, Lists}
use Rattle.nibble_map.specs.Stored.{IsStored}
use Rattle.nibble_map.specs.Trees.{Forest, bare, grow, Node, FragmentTree, nodes, nodes_below, nodes_at, paths, entries, IsShaped, IsForestPlaced, IsFull}
use Rattle.nibble_map.specs.Canonical.{IsCanonicalAt, IsLocal}
use Rattle.nibble_map.proofs.TreeLemmas.Shape.{Under, In, At, Parts, Parts-more, Parts-later, Parts-under, Parts-split, At-headed, at_entry_or_branch_point, entry_has_node, branch_point_has_node}
use Rattle.nibble_map.proofs.ListLemmas.Members.{path_at, at_path, stored_in, in_stored}
use Rattle.nibble_map.proofs.ListLemmas.Rising.{paths_rise}
use Rattle.nibble_map.proofs.TreeLemmas.Points.{branch_point_parts, parts_branch_point, top_cases, tree_points}
use Rattle.nibble_map.proofs.TreeLemmas.Full.{shaped_by_fullness, full_by_branch_points, parted_many, Under-same, no_node_here}

-- a tree whose paths are its points is full_by_branch_points
points_full : {P : Type 0} (t : FragmentTree P) → IsForestPlaced 0 t.children → Lists (IsPoint (IsStored (entries (nodes t)))) (paths (nodes t)) → IsFull t.children
points_full t s l = full_by_branch_points 0 t.children s each
  where
    seen : (x : List ℕ) → IsPoint (IsStored (entries (nodes t))) x → (x ≡ []) ⊎ (In t.children x ⊎ Parts (In t.children) x)
    seen x (inl e) = inl e
    seen x (inr (inl i)) = elim (top_cases t x i) [ inl n ↦ inl n.0 | inr k ↦ inr (inl k) ]
    seen x (inr (inr q)) = inr (inr (Parts-later t.top t.children x (Parts-more (IsStored (entries (nodes t))) _ x (top_cases t) (branch_point_parts _ x q))))

    each : (x : List ℕ) → At t.children x → In t.children x ⊎ Parts (In t.children) x
    each x a = elim (seen x ((l.exactly x).0 (inr (at_path [] t.children x (x, refl, a))))) [
      | inl e ↦ absurd (no_node_here t.children s (subst (At t.children) e a))
      | inr h ↦ h
    ]

-- a placed tree is full_by_branch_points exactly where its paths are the points of its entries
pub full_iff_points : {P : Type 0} (t : FragmentTree P) → IsForestPlaced 0 t.children → IsFull t.children ↔ Lists (IsPoint (IsStored (entries (nodes t)))) (paths (nodes t))
full_iff_points t s = (λ f. tree_points t (shaped_by_fullness 0 t.children s f), points_full t s)

-- below a path: a forest of one tree
-- the paths of a shaped tree below q are the points of its entries, but for the empty list
below_points : {P : Type 0} (q : List ℕ) (f : List ℕ) (o : Option P) (children : Forest P) → IsShaped 0 (grow f o children bare) → IsForestPlaced 0 (grow f o children bare) →
    Lists (λ p. IsPoint (IsStored (entries (nodes_below q (grow f o children bare)))) p × (p ≢ [])) (paths (nodes_below q (grow f o children bare)))
below_points q f o children s pl = record { rising = paths_rise 0 q (grow f o children bare) s; exactly = λ p. (to p, from p) }
  where
    not_empty : (q x : List ℕ) (a : ℕ) (w : List ℕ) → x ≡ a ∷ w → q ++ x ≢ []
    not_empty [] x a w e h = let k : a ∷ w ≡ [] = sym e ∙ h in cc k
    not_empty (b ∷ q) x a w e h = let k : b ∷ (q ++ x) ≡ [] = h in cc k

    put_in : (z : List ℕ) → In (grow f o children bare) z → IsStored (entries (nodes_below q (grow f o children bare))) (q ++ z)
    put_in z i = in_stored q (grow f o children bare) (q ++ z) (z, refl, i)

    to : (p : List ℕ) → Has (paths (nodes_below q (grow f o children bare))) p → IsPoint (IsStored (entries (nodes_below q (grow f o children bare)))) p × (p ≢ [])
    to p h =
        let r = path_at q (grow f o children bare) p h in
        let a = At-headed 0 (grow f o children bare) r.0 s r.2 in (
          inr (subst (λ v. IsStored (entries (nodes_below q (grow f o children bare))) v ⊎ IsBranchPoint (IsStored (entries (nodes_below q (grow f o children bare)))) v) (sym r.1)
              (elim (at_entry_or_branch_point 0 (grow f o children bare) r.0 s r.2) [
                | inl i ↦ inl (put_in r.0 i)
                | inr k ↦ inr (parts_branch_point _ (q ++ r.0) (Parts-under q (In (grow f o children bare)) (IsStored (entries (nodes_below q (grow f o children bare)))) r.0 put_in k))
              ])),
          λ e. not_empty q r.0 a.0 a.1 a.2 (sym r.1 ∙ e),
        )

    turned : (z : List ℕ) → Parts (In (grow f o children bare)) z → At (grow f o children bare) z
    turned [] k = absurd (parted_many (grow f o children bare) pl k)
    turned (c ∷ z) k = branch_point_has_node 0 (grow f o children bare) c z s k

    from : (p : List ℕ) → IsPoint (IsStored (entries (nodes_below q (grow f o children bare)))) p × (p ≢ []) → Has (paths (nodes_below q (grow f o children bare))) p
    from p (inl e, n) = absurd (n e)
    from p (inr (inl i), n) = let r = stored_in q (grow f o children bare) p i in at_path q (grow f o children bare) p (r.0, r.1, entry_has_node (grow f o children bare) r.0 r.2)
    from p (inr (inr k), n) =
        let r = Parts-split q (In (grow f o children bare)) p (Parts-more (IsStored (entries (nodes_below q (grow f o children bare)))) (Under q (In (grow f o children bare))) p
        (stored_in q (grow f o children bare)) (branch_point_parts _ p k)) in
        at_path q (grow f o children bare) p (r.0, r.1, turned r.0 r.2)

-- a placed tree below q is full_by_branch_points where its paths are its entries' points but the empty list
below_full : {P : Type 0} (q : List ℕ) (f : List ℕ) (o : Option P) (children : Forest P) → IsForestPlaced 0 (grow f o children bare) →
    Lists (λ p. IsPoint (IsStored (entries (nodes_below q (grow f o children bare)))) p × (p ≢ [])) (paths (nodes_below q (grow f o children bare))) → IsFull (grow f o children bare)
below_full q f o children s l = full_by_branch_points 0 (grow f o children bare) s (λ x a. each x ((l.exactly (q ++ x)).0 (at_path q (grow f o children bare) (q ++ x) (x, refl, a))))
  where
    each : (x : List ℕ) → IsPoint (IsStored (entries (nodes_below q (grow f o children bare)))) (q ++ x) × (q ++ x ≢ []) →
        In (grow f o children bare) x ⊎ Parts (In (grow f o children bare)) x
    each x (inl e, n) = absurd (n e)
    each x (inr (inl i), n) = inl (Under-same q (In (grow f o children bare)) x (stored_in q (grow f o children bare) (q ++ x) i))
    each x (inr (inr k), n) = inr (Under-same q (Parts (In (grow f o children bare))) x (Parts-split q (In (grow f o children bare)) (q ++ x)
        (Parts-more (IsStored (entries (nodes_below q (grow f o children bare)))) (Under q (In (grow f o children bare))) (q ++ x) (stored_in q (grow f o children bare)) (branch_point_parts _ (q ++ x) k))))

-- the nodes of a forest of one tree are the nodes at that tree's root
one_tree : {P : Type 0} (q f : List ℕ) (o : Option P) (children : Forest P) → nodes_below q (grow f o children bare) ≡ nodes_at q f o children
one_tree q f o children = ap (λ ns. record { path = q ++ f; fragment = f; pair = o } ∷ ns) (append-nil (nodes_below (q ++ f) children))

-- the paths of the nodes are the points of their entries, but for the empty list
AreExact : {P : Type 0} → List (Node P) → Type 0
AreExact ns = Lists (λ p. IsPoint (IsStored (entries ns)) p × (p ≢ [])) (paths ns)

-- a node with the local shape is canonical
pub local_canonical : {P : Type 0} (q f : List ℕ) (o : Option P) (children : Forest P) → IsLocal q f o children → IsCanonicalAt q f o children
unfolding AreExact
local_canonical [] [] o children (s, u, c) = record { placed = s; exact = inl (refl, tree_points record { top = o; children = children } (shaped_by_fullness 0 children s u)) }
local_canonical q f o children (s, u, inr (n, c)) = record {
  placed = s;
  exact = inr (
    n,
    subst AreExact (one_tree q f o children)
        (below_points q f o children (n, omega arith, c, shaped_by_fullness 0 children s u, tt) (n, omega arith, s, tt)),
  );
}
local_canonical [] (b ∷ f) o children (s, u, inl e) = absurd (let h : b ∷ f ≡ [] = e in cc h)
local_canonical (a ∷ q) f o children (s, u, inl e) = absurd (let h : a ∷ (q ++ f) ≡ [] = e in cc h)

-- a canonical node has the local shape
pub canonical_local : {P : Type 0} (q f : List ℕ) (o : Option P) (children : Forest P) → IsCanonicalAt q f o children → IsLocal q f o children
unfolding AreExact
canonical_local q f o children c = by_case q f c.placed c.exact
  where
    by_case : (q f : List ℕ) → IsForestPlaced 0 children → (((q ++ f ≡ []) × Lists (IsPoint (IsStored (entries (nodes_at q f o children)))) (paths (nodes_at q f o children)))
        ⊎ ((f ≢ []) × Lists (λ p. IsPoint (IsStored (entries (nodes_at q f o children))) p × (p ≢ [])) (paths (nodes_at q f o children)))) → IsLocal q f o children
    by_case [] [] s (inl h) = (s, points_full record { top = o; children = children } s h.1, inl refl)
    by_case [] (b ∷ f) s (inl h) = absurd (let k : b ∷ f ≡ [] = h.0 in cc k)
    by_case (a ∷ q) f s (inl h) = absurd (let k : a ∷ (q ++ f) ≡ [] = h.0 in cc k)
    by_case q f s (inr h) =
        let u = below_full q f o children (h.0, omega arith, s, tt) (subst AreExact (sym (one_tree q f o children)) h.1) in
        (s, u.1, inr (h.0, u.0))
