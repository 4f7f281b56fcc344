-- The local shape makes a tree's paths the points of its entries.
use Rattle.nibble_map.specs.Points.{IsBranchPoint, IsPoint}
use Rattle.std.proofs.Common.{◌≡◌, ℕ, ◌⊎◌, List, [], ◌∷◌, ◌++◌, IsSome, refl, sym, inl, inr, append_assoc}
use Rattle.nibble_map.specs.Lists.{IsBefore, Has, Lists}
use Rattle.nibble_map.specs.Stored.{IsStored}
use Rattle.nibble_map.specs.Trees.{FragmentTree, nodes, nodes_below, paths, entries, IsShaped}
use Rattle.nibble_map.proofs.TreeLemmas.Shape.{At, In, Parts, Parts-more, Parts-later, At-headed, at_entry_or_branch_point, entry_has_node, branch_point_has_node}
use Rattle.nibble_map.proofs.ListLemmas.Members.{path_at, at_path, stored_in, in_stored, later_stored, stored_cases}
use Rattle.nibble_map.proofs.ListLemmas.Rising.{paths_rise, Each-from_has}

-- where stored lists part by the words of the map, they part by the words of the forest
pub branch_point_parts : {P : Type 0} (m : List (List ℕ × P)) (p : List ℕ) → IsBranchPoint (IsStored m) p → Parts (IsStored m) p
branch_point_parts m p (a, b, ne, (x, i, (r, e)), (y, j, (t, e'))) =
    (a, b, ne, (r, rw (e, append_assoc) at i), (t, rw (e', append_assoc) at j))

-- where stored lists part by the words of the forest, they part by the words of the map
pub parts_branch_point : {P : Type 0} (m : List (List ℕ × P)) (p : List ℕ) → Parts (IsStored m) p → IsBranchPoint (IsStored m) p
parts_branch_point m p (a, b, ne, (r, i), (t, j)) =
    (a, b, ne, (p ++ a ∷ r, i, (r, sym (append_assoc p (a ∷ []) r))), (p ++ b ∷ t, j, (t, sym (append_assoc p (b ∷ []) t))))

-- the stored lists of a tree
-- a list that a tree stores is the empty one, of the root, or leads to an entry of its children
pub top_cases : {P : Type 0} (t : FragmentTree P) (p : List ℕ) → IsStored (entries (nodes t)) p → ((p ≡ []) × IsSome t.top) ⊎ In t.children p
top_cases t p h = elim (stored_cases [] t.top _ p h) [ inl n ↦ inl n | inr i ↦ inr (let r = stored_in [] t.children p i in rw (← r.1) at r.2) ]

-- a list that leads to an entry of a tree's children is stored in the tree
pub child_stored : {P : Type 0} (t : FragmentTree P) (p : List ℕ) → In t.children p → IsStored (entries (nodes t)) p
child_stored t p i = later_stored [] t.top _ p (in_stored [] t.children p (p, refl, i))

-- a path of a shaped tree is a point of its entries
path_point : {P : Type 0} (t : FragmentTree P) → IsShaped 0 t.children → (p : List ℕ) → Has (paths (nodes t)) p → IsPoint (IsStored (entries (nodes t))) p
path_point t s p (inl e) = inl e
path_point t s p (inr h) = inr (let r = path_at [] t.children p h in
    elim (at_entry_or_branch_point 0 t.children p s (rw (← r.1) at r.2)) [
      | inl i ↦ inl (child_stored t p i)
      | inr q ↦ inr (parts_branch_point _ p (Parts-more (In t.children) (IsStored (entries (nodes t))) p (child_stored t) q))
    ])

-- the empty list, or one that leads to a node of a shaped tree, is a point of its entries
pub at_point : {P : Type 0} (t : FragmentTree P) → IsShaped 0 t.children → (y : List ℕ) → ((y ≡ []) ⊎ At t.children y) → IsPoint (IsStored (entries (nodes t))) y
at_point t s y (inl e) = inl e
at_point t s y (inr a) = path_point t s y (inr (at_path [] t.children y (y, refl, a)))

-- a point of a shaped tree's entries is a path of the tree
pub point_path : {P : Type 0} (t : FragmentTree P) → IsShaped 0 t.children → (p : List ℕ) → IsPoint (IsStored (entries (nodes t))) p → Has (paths (nodes t)) p
point_path t s p (inl e) = inl e
point_path t s p (inr (inl i)) = elim (top_cases t p i) [ inl n ↦ inl n.0 | inr k ↦ inr (at_path [] t.children p (p, refl, entry_has_node t.children p k)) ]
point_path t s [] (inr (inr q)) = inl refl
point_path t s (c ∷ p) (inr (inr q)) = inr (at_path [] t.children (c ∷ p) (
  c ∷ p,
  refl,
  branch_point_has_node 0 t.children c p s
      (Parts-later t.top t.children (c ∷ p) (Parts-more (IsStored (entries (nodes t))) _ (c ∷ p) (top_cases t) (branch_point_parts _ (c ∷ p) q))),
))

-- the paths of a shaped tree are exactly the points of its entries, in rising order
pub tree_points : {P : Type 0} (t : FragmentTree P) → IsShaped 0 t.children → Lists (IsPoint (IsStored (entries (nodes t)))) (paths (nodes t))
tree_points t s = record {
  rising = (Each-from_has (IsBefore []) _ later, paths_rise 0 [] t.children s);
  exactly = λ p. (path_point t s p, point_path t s p);
}
  where
    later : (x : List ℕ) → Has (paths (nodes_below [] t.children)) x → IsBefore [] x
    later x h = let r = path_at [] t.children x h in let a = At-headed 0 t.children r.0 s r.2 in rw (r.1, a.2) tt
