-- The two fragments that a removal joins.
use Rattle.std.proofs.Common.{◌≡◌, ◌≢◌, ◌⊎◌, ◌+◌, ◌≤◌, inl, inr, ℕ, List, [], ◌∷◌, ◌++◌, length, option_map, T, is_some, refl, ap, sym, subst, ◌∙◌, append_assoc, arith}
use Rattle.std.proofs.lemmas.List.{length-append}
use Rattle.masked_tree.specs.Tree.{Tree}
use Rattle.masked_tree.specs.Paths.{IsChildAt, IsHeld, IsNodeAt}
use Rattle.masked_tree.proofs.PathLemmas.Paths.{no_child_here}
use Rattle.nibble_map.specs.MapQueries.{AreChildren, IsChild, IsFragment, IsLeaf}
use Rattle.nibble_map.specs.Maps.{PairMap, IsPoint, IsStored}
use Rattle.nibble_map.specs.Nibbles.{IsShort}
use Rattle.nibble_map.proofs.ListLemmas.Parted.{prefix_length, reached_past}
use Rattle.radix_nodes.specs.declared.trie_node.KeyValue.{KeyValue}
use Rattle.radix_nodes.specs.declared.trie_node.TrieNode.{TrieNode}
use Rattle.radix_nodes.specs.Nodes.{AreTwo, IsLeftWith, HasLongJoinBelow, fragment_of, tree_of}
use Rattle.radix_nodes.specs.Pairs.{pair_of}
use Rattle.radix_trie.specs.Loci.{child_views}
use Rattle.radix_trie.specs.Refusals.{IsJoined, JoinsAreShort}
use Rattle.radix_trie.specs.Roots.{IsKept, IsRoot, map_of}
use Rattle.radix_trie.specs.Views.{paths_of}
use Rattle.radix_trie.proofs.PathLemmas.Parts.{node_down, node_placed}
use Rattle.radix_trie.proofs.PathLemmas.NodesBelow.{childless_is_leaf}
use Rattle.radix_trie.proofs.PathLemmas.Children.{children_at_node}
use Rattle.radix_trie.proofs.ChangeLemmas.Changes.{append-root_fragment, held_at}
use Rattle.radix_trie.proofs.RootLemmas.Held.{held_stored, pair_of-node}
use Rattle.radix_trie.proofs.RootLemmas.Paths.{node_fragment, node_point}
use Rattle.radix_trie.proofs.RootLemmas.Shown.{kept_root}

module _ {P : Type 0} where
  -- the one of two children stands below their parent
  first_of_two : (u v w : Tree P) → AreTwo u.children v w → IsChildAt u.children v.fragment v
  first_of_two u v w (inl e) = subst (λ k. IsChildAt k v.fragment v) (sym e) (inl (refl, refl))
  first_of_two u v w (inr e) = subst (λ k. IsChildAt k v.fragment v) (sym e) (inr (inr (inl (refl, refl))))

  -- and so does the other
  other_of_two : (u v w : Tree P) → AreTwo u.children v w → IsChildAt u.children w.fragment w
  other_of_two u v w (inl e) = subst (λ k. IsChildAt k w.fragment w) (sym e) (inr (inr (inl (refl, refl))))
  other_of_two u v w (inr e) = subst (λ k. IsChildAt k w.fragment w) (sym e) (inl (refl, refl))

  -- the child that is left stands below its parent
  left_child : (e x : List ℕ) (u w : Tree P) → IsLeftWith e x u w → IsChildAt u.children w.fragment w
  left_child e x u w (inl h) = subst (λ k. IsChildAt k w.fragment w) (sym h.1) (inl (refl, refl))
  left_child e x u w (inr h) = other_of_two u h.1 w h.4

module _ {K V : Type 0} (enc : K → List ℕ) (m : PairMap K V) (t : Tree (KeyValue K V)) (root : IsRoot enc m t) (e : List ℕ) where
  -- at a node u at path x below the root, which is left with the one child w
  module _ (x : List ℕ) (u w : Tree (KeyValue K V)) (below : IsChildAt t.children x u) (left : IsLeftWith e x u w) where
    -- the node is one of the root's
    at : IsNodeAt t x u
    at = inr (x, ap (λ f. f ++ x) (sym root.top), below)

    -- the map's children of its path are those of the node
    children : AreChildren m x (paths_of (child_views m x u.children))
    children = children_at_node enc m t root x u at (node_placed t x u root.masked at)

    -- the paths of two children are the map's children of their parent's path, in either order
    two : (v : Tree (KeyValue K V)) → e ≡ x ++ v.fragment → AreTwo u.children v w → let q = x ++ w.fragment in AreChildren m x (e ∷ q ∷ []) ⊎ AreChildren m x (q ∷ e ∷ [])
    two v is (inl k) = inl (subst (λ d. AreChildren m x (d ∷ (x ++ w.fragment) ∷ [])) (sym is) (subst (λ k. AreChildren m x (paths_of (child_views m x k))) k children))
    two v is (inr k) = inr (subst (λ d. AreChildren m x ((x ++ w.fragment) ∷ d ∷ [])) (sym is) (subst (λ k. AreChildren m x (paths_of (child_views m x k))) k children))

    -- the removal joins the node's path with the child's
    points_joined : IsStored m e → IsJoined m e x (x ++ w.fragment)
    points_joined stored = (stored, node_point enc m t root x u at, λ z. no_child_here t.children u root.masked.1 (subst (λ y. IsChildAt t.children y u) z below), how left)
      where
        how : IsLeftWith e x u w → let q = x ++ w.fragment in ((x ≡ e) × AreChildren m x (q ∷ [])) ⊎ ((IsStored m x → ⊥) × IsLeaf m e × (AreChildren m x (e ∷ q ∷ []) ⊎ AreChildren m x (q ∷ e ∷ [])))
        how (inl h) = inl (sym h.0, subst (λ k. AreChildren m x (paths_of (child_views m x k))) h.1 children)
        how (inr h) =
            let leaf = node_down t x u h.1.fragment h.1 at (first_of_two u h.1 w h.4) in
            inr (
              λ s. subst (λ p. T (is_some p)) (sym (pair_of-node enc m t root x u at) ∙ ap (option_map pair_of) h.0) s,
              subst (IsLeaf m) (sym h.2) (childless_is_leaf enc m t root (x ++ h.1.fragment) h.1 leaf h.3),
              two h.1 h.2 h.4,
            )

    -- where the fragments that the removal joins are short, the node's and the child's have at most 32 nibbles together
    fragments_short : IsStored m e → JoinsAreShort m e → length u.fragment + length w.fragment ≤ 32
    fragments_short stored short =
        let child = node_down t x u w.fragment w at (left_child e x u w left) in
        let few = short x (x ++ w.fragment) u.fragment w.fragment (points_joined stored) (node_fragment enc m t root x u at) (node_fragment enc m t root (x ++ w.fragment) w child) in
        let both = length-append u.fragment w.fragment in
        omega (arith, few, both)

  -- where the fragments that the removal joins are short, none is too long
  pub short_joins_fit : IsStored m e → JoinsAreShort m e → HasLongJoinBelow t e → ⊥
  short_joins_fit stored short j =
      let left = subst (λ x. IsLeftWith e x j.1 j.2) (ap (λ f. f ++ j.0) root.top) j.4.0 in
      let few = fragments_short j.0 j.1 j.2 j.3 left stored short in
      let many = j.4.1 in
      omega (arith, few, many)

module _ {K V : Type 0} (m : PairMap K V) (e : List ℕ) where
  -- the child that is left is one of the map's
  joined_child : (p q : List ℕ) → IsJoined m e p q → IsChild m p q
  joined_child p q (stored, point, some, inl h) = (h.1.exactly q).0 (inl refl)
  joined_child p q (stored, point, some, inr (bare, leaf, inl two)) = (two.exactly q).0 (inr (inl refl))
  joined_child p q (stored, point, some, inr (bare, leaf, inr two)) = (two.exactly q).0 (inl refl)

  -- a fragment is no longer than its point's list
  length-fragment : (p f : List ℕ) → IsFragment m p f → length f ≤ length p
  length-fragment p f (inl h) = let a = ap length h.1 in omega (arith, a)
  length-fragment p f (inr h) = let a = ap length h.2 in let b = length-append h.0 f in omega (arith, a, b)

  -- a child's fragment and its parent's list are together no longer than the child's list
  length-child_fragment : (p q g : List ℕ) → IsPoint m p → IsChild m p q → IsFragment m q g → length p + length g ≤ length q
  length-child_fragment p q g point child (inl h) =
      let a = ap length h.1 in let b = prefix_length (p ++ child.0 ∷ []) q child.1.below in let d = length-append p (child.0 ∷ []) in omega (arith, a, b, d)
  length-child_fragment p q g point child (inr h) =
      let rest = child.1.below.0 in
      let is : q ≡ p ++ child.0 ∷ rest = child.1.below.1 ∙ append_assoc p (child.0 ∷ []) rest in
      let apart : p ≢ q = λ z. (let a = ap length z in let b = ap length is in let d = length-append p (child.0 ∷ rest) in omega (arith, a, b, d)) in
      let most = h.1.longest p (point, apart) (child.0 ∷ rest, is) in
      let a = ap length h.2 in
      let b = length-append h.0 g in
      omega (arith, most, a, b)

  -- where all stored lists are short, so are the fragments that a removal joins
  pub short_lists_join_short : ((d : List ℕ) → IsStored m d → IsShort d) → JoinsAreShort m e
  short_lists_join_short short p q f g joined own under =
      let child = joined_child p q joined in
      let rest = child.1.below.0 in
      let r = reached_past (IsStored m) q p child.0 rest (child.1.below.1 ∙ append_assoc p (child.0 ∷ []) rest) child.1.member in
      let few = short r.0 r.1 in
      let less = prefix_length q r.0 r.2 in
      let a = length-fragment p f own in
      let b = length-child_fragment p q g joined.1 child under in
      let d = length-append f g in
      omega (arith, few, less, a, b, d)

-- of a kept root
module _ {K V : Type 0} (enc : K → List ℕ) (root : TrieNode K V) (count nodes nibbles : ℕ) (kept : IsKept enc (tree_of root) count nodes nibbles) (list : List ℕ) where
  -- where the fragments that the removal of the pair at the list joins are short, none that stands behind the root's fragment is too long
  pub kept_joins_fit : JoinsAreShort (map_of (tree_of root)) list → IsHeld (tree_of root) (fragment_of root ++ list) → HasLongJoinBelow (tree_of root) (fragment_of root ++ list) → ⊥
  kept_joins_fit short held long =
      let is = append-root_fragment root list list kept.top refl in
      let stored = held_stored enc (tree_of root) count nodes nibbles kept list (held_at root list list kept.top refl held) in
      short_joins_fit enc (map_of (tree_of root)) (tree_of root) (kept_root enc (tree_of root) count nodes nibbles kept) list stored short (subst (HasLongJoinBelow (tree_of root)) is long)
