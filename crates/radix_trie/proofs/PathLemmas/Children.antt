-- The map's children of a path are the paths of the views there.
use Rattle.std.proofs.Common.{◌≡◌, ◌≢◌, inl, inr, ℕ, ◌≤◌, ◌<◌, List, [], ◌∷◌, ◌++◌, drop, length, Some, None, refl, ap, sym, subst, ◌∙◌, append_assoc, arith, Bor, Option}
use Rattle.std.proofs.lemmas.List.{length-append}
use Rattle.nibble_map.specs.Answers.{IsShortest}
use Rattle.masked_tree.specs.Tree.{Tree, IsAt, IsTreePlaced}
use Rattle.masked_tree.specs.Paths.{IsNodeAt, IsPath}
use Rattle.nibble_map.specs.Lists.{Each, Has, IsPrefix, IsStrictPrefix}
use Rattle.nibble_map.specs.MapQueries.{AreChildren, IsChild}
use Rattle.nibble_map.specs.Maps.{PairMap, IsPoint}
use Rattle.nibble_map.specs.Nibbles.{IsShort}
use Rattle.nibble_map.specs.Trees.{first}
use Rattle.nibble_map.proofs.ListLemmas.Cut.{cancel_front, cons_head}
use Rattle.masked_tree.proofs.TreeLemmas.Children.{child_tree_is_placed}
use Rattle.masked_tree.proofs.PathLemmas.Paths.{below_to_child}
use Rattle.nibble_map.proofs.ListLemmas.Parted.{prefix_is_whole, prefix_through}
use Rattle.nibble_map.proofs.TreeLemmas.Shape.{first_and_rest}
use Rattle.radix_nodes.specs.declared.trie_node.KeyValue.{KeyValue}
use Rattle.radix_nodes.specs.declared.trie_node.TrieNode.{TrieNode}
use Rattle.radix_nodes.specs.Nodes.{tree_of, fragment_of}
use Rattle.radix_nodes.proofs.NodeLemmas.Nodes.{fragment-tree_of}
use Rattle.radix_trie.specs.Loci.{IsNodeOf, IsLocus, child_views}
use Rattle.radix_trie.specs.Roots.{IsRoot}
use Rattle.radix_trie.specs.Views.{paths_of}
use Rattle.radix_trie.proofs.PathLemmas.Parts.{node_down, node_up}
use Rattle.radix_trie.proofs.RootLemmas.Paths.{node_point, point_node}
use Rattle.radix_trie.proofs.PathLemmas.Loci.{nearest_found, no_path_found, found_placed, node_found_here, node_found_past}
use Rattle.radix_trie.proofs.PathLemmas.NodesBelow.{path_leads, shortest_point}
use Rattle.radix_trie.proofs.PathLemmas.ChildViews.{direct_child, child_child, path_has_fragment, views_rise, child_views_have, has_view}

-- p with a nibble, and then r, is p with the nibble and r
append-with_nibble : (p : List ℕ) (a : ℕ) (r : List ℕ) → (p ++ a ∷ []) ++ r ≡ p ++ a ∷ r
append-with_nibble p a r = append_assoc p (a ∷ []) r

-- what holds of all that a list has holds of each
each_of : (Q : List ℕ → Type 0) (qs : List (List ℕ)) → ((q : List ℕ) → Has qs q → Q q) → Each Q qs
each_of Q [] h = tt
each_of Q (q ∷ qs) h = (h q (inl refl), each_of Q qs (λ r i. h r (inr i)))

module _ {K V : Type 0} (enc : K → List ℕ) (m : PairMap K V) (t : Tree (KeyValue K V)) (root : IsRoot enc m t) (p : List ℕ) where
  -- at a node
  module _ (u : Tree (KeyValue K V)) (at : IsNodeAt t p u) (placed : IsTreePlaced u) where
    -- the path of the child at i is one of the map's children of p
    views_child : (i : ℕ) (c : Tree (KeyValue K V)) → IsAt i u.children c → IsChild m p (p ++ c.fragment)
    views_child i c is = (
      first c.fragment,
      record {
        member = node_point enc m t root (p ++ c.fragment) c (node_down t p u c.fragment c at (direct_child i u.children c is));
        below = (h.0, ap (λ f. p ++ f) h.1 ∙ sym (append-with_nibble p (first c.fragment) h.0));
        shortest = least;
      },
    )
      where
        h : (w : List ℕ) × (c.fragment ≡ first c.fragment ∷ w)
        h = first_and_rest c.fragment (child_tree_is_placed 0 i u.children c is placed.1).0

        some : (r : List ℕ) → first c.fragment ∷ r ≢ []
        some r e = cc e

        least : (y : List ℕ) → IsPoint m y → IsPrefix (p ++ first c.fragment ∷ []) y → length (p ++ c.fragment) ≤ length y
        least y point pre =
            let e : y ≡ p ++ first c.fragment ∷ pre.0 = pre.1 ∙ append-with_nibble p (first c.fragment) pre.0 in
            let n = point_node enc m t root y point in
            let child = node_up t p u (first c.fragment ∷ pre.0) n.0 root.masked (some pre.0) at (subst (λ z. IsNodeAt t z n.0) e n.1) in
            let below = path_has_fragment c (first c.fragment ∷ pre.0) n.0 (below_to_child 0 i u.children c (first c.fragment ∷ pre.0) n.0 placed.1 is child refl) in
            let a = ap length e ∙ length-append p (first c.fragment ∷ pre.0) in
            let b = ap length below.1 ∙ length-append c.fragment below.0 in
            let d = length-append p c.fragment in
            omega (arith, a, b, d)

    -- each of the map's children of p is the path of a view at a child
    child_view : (q : List ℕ) → IsChild m p q → Has (paths_of (child_views m p u.children)) q
    child_view q (a, s) =
        let r = s.below.0 in
        let e : q ≡ p ++ a ∷ r = s.below.1 ∙ append-with_nibble p a r in
        let n = point_node enc m t root q s.member in
        let child = node_up t p u (a ∷ r) n.0 root.masked (λ z. some z) at (subst (λ z. IsNodeAt t z n.0) e n.1) in
        let c = child_child u.children (a ∷ r) n.0 child in
        let over = path_has_fragment c.1 (a ∷ r) n.0 c.3 in
        let h = first_and_rest c.1.fragment (child_tree_is_placed 0 c.0 u.children c.1 c.2 placed.1).0 in
        let same : a ≡ first c.1.fragment = cons_head (over.1 ∙ ap (λ f. f ++ over.0) h.1) in
        let point = node_point enc m t root (p ++ c.1.fragment) c.1 (node_down t p u c.1.fragment c.1 at (direct_child c.0 u.children c.1 c.2)) in
        let pre : IsPrefix (p ++ a ∷ []) (p ++ c.1.fragment) = (h.0, ap (λ f. p ++ f) (h.1 ∙ ap (λ b. b ∷ h.0) (sym same)) ∙ sym (append-with_nibble p a h.0)) in
        let most = s.shortest (p ++ c.1.fragment) point pre in
        let whole : p ++ c.1.fragment ≡ q = prefix_is_whole (p ++ c.1.fragment) q (over.0, e ∙ ap (λ f. p ++ f) over.1 ∙ sym (append_assoc p c.1.fragment over.0)) most in
        subst (Has (paths_of (child_views m p u.children))) whole (child_views_have m p c.0 u.children c.1 c.2)
      where
        some : {w : List ℕ} → a ∷ w ≡ [] → ⊥
        some z = cc z

    -- at a node's path the map's children are the paths of the node's child views
    pub children_at_node : AreChildren m p (paths_of (child_views m p u.children))
    children_at_node = record {
      rising = views_rise m p 0 u.children placed.1;
      exactly = λ q. (λ h. (let r = has_view m p u.children q h in subst (IsChild m p) (sym r.3) (views_child r.0 r.1 r.2)), child_view q);
    }

    -- where the map's children of a node's path are short, so are the node's child views' paths
    short_children_at_node : ((q : List ℕ) → IsChild m p q → IsShort q) → Each IsShort (paths_of (child_views m p u.children))
    short_children_at_node short = each_of IsShort (paths_of (child_views m p u.children)) (λ q h. short q ((children_at_node.exactly q).0 h))

  -- at the way to a node strictly below
  module _ (x : List ℕ) (near : IsShortest (IsPath t) p x) (strict : IsStrictPrefix p x) where
    -- the path of the nearest node below p is one of the map's children of p
    own_child : IsChild m p x
    own_child = (
      strict.0,
      record {
        member = (shortest_point enc m t root p x near).member;
        below = (strict.1, strict.2 ∙ sym (append-with_nibble p strict.0 strict.1));
        shortest = λ y point pre. (shortest_point enc m t root p x near).shortest y point (prefix_through p (p ++ strict.0 ∷ []) y (strict.0 ∷ [], refl) pre);
      },
    )

    -- each of the map's children of p is the path of the nearest node below p
    only_child : (q : List ℕ) → IsChild m p q → q ≡ x
    only_child q (b, s) =
        let n = point_node enc m t root q s.member in
        let pre = path_leads enc m t root p x near q n.0 n.1 (prefix_through p (p ++ b ∷ []) q (b ∷ [], refl) s.below) in
        let e : p ++ b ∷ s.below.0 ≡ p ++ strict.0 ∷ (strict.1 ++ pre.0) = sym (s.below.1 ∙ append-with_nibble p b s.below.0) ∙ pre.1 ∙ ap (λ y. y ++ pre.0) strict.2 ∙ append_assoc p (strict.0 ∷ strict.1) pre.0 in
        let same : b ≡ strict.0 = cons_head (cancel_front p (b ∷ s.below.0) (strict.0 ∷ (strict.1 ++ pre.0)) e) in
        let most = s.shortest x (shortest_point enc m t root p x near).member (strict.1, strict.2 ∙ ap (λ a. p ++ a ∷ strict.1) (sym same) ∙ sym (append-with_nibble p b strict.1)) in
        sym (prefix_is_whole x q pre most)

    -- where the nearest node is strictly below p, its path is the one child of p
    only_child_past : AreChildren m p (x ∷ [])
    only_child_past = record {
      rising = (tt, tt);
      exactly = λ q. (λ h. elim h [ inl e ↦ subst (IsChild m p) (sym e) own_child | inr h ↦ absurd h ], λ child. inl (only_child q child));
    }

  -- where no path goes on from p, the map has no children of p
  no_children_apart : ((q : List ℕ) → IsPath t q → IsPrefix p q → ⊥) → AreChildren m p []
  no_children_apart free = record {
    rising = tt;
    exactly = λ q. (λ h. absurd h, λ child. free q (point_node enc m t root q child.1.member) (prefix_through p (p ++ child.0 ∷ []) q (child.0 ∷ [], refl) child.1.below));
  }

-- of what was found for a path
module _ {K V : Type 0} (enc : K → List ℕ) (m : PairMap K V) (p : List ℕ) (found : Option (Bor (TrieNode K V) × ℕ)) (locus : IsLocus enc m p found) where
  -- where nothing was found for p, the map has no children of p
  pub no_children_found : found ≡ None → AreChildren m p []
  no_children_found e = no_children_apart enc m locus.0 locus.1 p (no_path_found enc m p found locus e)

  module _ (r : Bor (TrieNode K V)) (n : ℕ) (is : found ≡ Some (r, n)) where
    -- where p ends with the found node's fragment, the node is the map's node at p
    pub node_here : n ≡ length (fragment_of r.now) → IsNodeOf enc m p (tree_of r.now)
    node_here whole = (locus.0, locus.1, node_found_here enc m p found locus r n is whole)

    -- the children of the found node are at their places
    placed_here : IsTreePlaced (tree_of r.now)
    placed_here = found_placed enc m p found locus r n is

    -- where p ends with the found node's fragment, the children of p are its child views' paths
    pub children_found_here : n ≡ length (fragment_of r.now) → AreChildren m p (paths_of (child_views m p (tree_of r.now).children))
    children_found_here whole = children_at_node enc m locus.0 locus.1 p (tree_of r.now) (node_found_here enc m p found locus r n is whole) placed_here

    -- where p ends with the found node's fragment and has short children, so are the child views' paths
    pub short_children_here : n ≡ length (fragment_of r.now) → ((q : List ℕ) → IsChild m p q → IsShort q) → Each IsShort (paths_of (child_views m p (tree_of r.now).children))
    short_children_here whole = short_children_at_node enc m locus.0 locus.1 p (tree_of r.now) (node_found_here enc m p found locus r n is whole) placed_here

    -- the found node is the map's node at p and the rest of its fragment
    pub node_past : (x : List ℕ) → x ≡ p ++ drop n (fragment_of r.now) → IsNodeOf enc m x (tree_of r.now)
    node_past x e =
        let same : p ++ drop n (tree_of r.now).fragment ≡ x = ap (λ f. p ++ drop n f) (fragment-tree_of r.now) ∙ sym e in
        (locus.0, locus.1, subst (λ y. IsNodeAt locus.0 y (tree_of r.now)) same (nearest_found enc m p found locus r n is).node)

    -- where p ends inside the found node's fragment, the node's path is the one child of p
    pub only_child_found_past : n < length (fragment_of r.now) → (x : List ℕ) → x ≡ p ++ drop n (fragment_of r.now) → AreChildren m p (x ∷ [])
    only_child_found_past lt x e =
        let same : p ++ drop n (tree_of r.now).fragment ≡ x = ap (λ f. p ++ drop n f) (fragment-tree_of r.now) ∙ sym e in
        subst (λ y. AreChildren m p (y ∷ [])) same
        (only_child_past enc m locus.0 locus.1 p _ (nearest_found enc m p found locus r n is).shortest (node_found_past enc m p found locus r n is lt))

    -- where p ends inside the found node's fragment and has short children, the node's path is short
    pub short_child_past : n < length (fragment_of r.now) → ((q : List ℕ) → IsChild m p q → IsShort q) → IsShort (p ++ drop n (fragment_of r.now))
    short_child_past lt short = short (p ++ drop n (fragment_of r.now)) (((only_child_found_past lt _ refl).exactly _).0 (inl refl))
