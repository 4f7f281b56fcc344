-- What a map has at and below a path, at the nodes of its tree.
use Rattle.std.proofs.Common.{◌≡◌, ◌≢◌, inl, inr, Bool, ℕ, List, [], ◌∷◌, ◌++◌, map, filter, refl, ap, sym, subst, ◌∙◌, append_assoc}
use Rattle.std.proofs.lemmas.Simd.{map-map}
use Rattle.nibble_map.specs.Answers.{IsShortest}
use Rattle.masked_tree.specs.Tree.{Tree, none, entries_in, entries_at}
use Rattle.masked_tree.specs.Paths.{IsChildAt, IsNodeAt, IsPath}
use Rattle.nibble_map.specs.Lists.{IsPrefix, IsStrictPrefix, is_prefix}
use Rattle.nibble_map.specs.MapQueries.{IsLeaf}
use Rattle.nibble_map.specs.Maps.{PairMap, IsStored, IsPoint, walk}
use Rattle.nibble_map.specs.Swaps.{entry}
use Rattle.nibble_map.specs.Trees.{first}
use Rattle.nibble_map.proofs.ListLemmas.Cut.{cons_not_empty}
use Rattle.nibble_map.proofs.MapLemmas.Edits.{walk-by_entries}
use Rattle.nibble_map.proofs.PointLemmas.Moves.{shortest_moves}
use Rattle.nibble_map.proofs.ListLemmas.Parted.{shortest_leads, reached_past}
use Rattle.nibble_map.proofs.TreeLemmas.Shape.{first_and_rest}
use Rattle.radix_nodes.specs.declared.trie_node.KeyValue.{KeyValue}
use Rattle.radix_trie.specs.Roots.{IsRoot}
use Rattle.radix_trie.specs.Views.{pairs_below}
use Rattle.radix_nodes.specs.Pairs.{pairs_in}
use Rattle.radix_trie.proofs.PathLemmas.Parts.{true_or_false, entries_under, entries_under-node, entries_under-free, node_down, node_up}
use Rattle.radix_trie.proofs.RootLemmas.Paths.{node_point, point_node}
use Rattle.radix_trie.proofs.RootLemmas.Shown.{row_of, entries_of-root}
use Rattle.radix_nodes.proofs.NodeLemmas.Pairs.{pairs_of-entries_of_node}

-- a filter of an image is the image of what passes the test under f
pub filter-map : {A B : Type 0} (test : B → Bool) (f : A → B) (xs : List A) → filter test (map f xs) ≡ map f (filter (λ x. test (f x)) xs)
filter-map test f [] = refl
filter-map test f (x ∷ xs) = elim (true_or_false (test (f x))) [
  | inl e ↦ rw e (ap (λ ys. f x ∷ ys) (filter-map test f xs))
  | inr e ↦ rw e (filter-map test f xs)
]

-- at a node of the map's tree
module _ {K V : Type 0} (enc : K → List ℕ) (m : PairMap K V) (t : Tree (KeyValue K V)) (root : IsRoot enc m t) where
  -- the shortest path with the prefix p is the shortest point with it
  pub shortest_point : (p x : List ℕ) → IsShortest (IsPath t) p x → IsShortest (IsPoint m) p x
  shortest_point p x = shortest_moves (IsPath t) (IsPoint m) (λ q h. node_point enc m t root q h.0 h.1) (point_node enc m t root) p x

  -- the shortest path with the prefix p is a prefix of each path with it
  pub path_leads : (p x : List ℕ) → IsShortest (IsPath t) p x → (y : List ℕ) (w : Tree (KeyValue K V)) → IsNodeAt t y w → IsPrefix p y → IsPrefix x y
  path_leads p x s y w i = shortest_leads (IsStored m) p x y (shortest_point p x s) (node_point enc m t root y w i)

  -- the walk from p gives the rows of the root's entries with the prefix p
  walk-rows : (p : List ℕ) → walk m p ≡ map row_of (entries_under p (entries_at [] t))
  walk-rows p =
      walk-by_entries m p ∙ ap (filter (λ e. is_prefix p e.0)) (sym root.canonical.pairs ∙ entries_of-root t root.top)
      ∙ filter-map (λ (e : List ℕ × (K × V)). is_prefix p e.0) row_of (entries_at [] t)

  -- the walk from p gives the rows at and below the node with the shortest path that p begins
  pub walk-node : (p x : List ℕ) (u : Tree (KeyValue K V)) → IsNodeAt t x u → IsShortest (IsPath t) p x → walk m p ≡ map row_of (entry x u.pair ++ entries_in x u.children)
  walk-node p x u i s = walk-rows p ∙ ap (map row_of) (entries_under-node p t x u root.masked i (path_leads p x s) s.below)

  -- the pairs in the node with the shortest path that p begins are the map's at and below p
  pub pairs_in-node : (p x : List ℕ) (u : Tree (KeyValue K V)) → IsNodeAt t x u → IsShortest (IsPath t) p x → pairs_in u ≡ pairs_below m p
  pairs_in-node p x u i s =
      sym (ap (map (λ e. e.1)) (walk-node p x u i s) ∙ map-map (λ e. e.1) row_of (entry x u.pair ++ entries_in x u.children) ∙ pairs_of-entries_of_node x u)

  -- where no path goes on from p, the walk from p is empty
  pub walk-no_path : (p : List ℕ) → ((q : List ℕ) → IsPath t q → IsPrefix p q → ⊥) → walk m p ≡ []
  walk-no_path p apart = walk-rows p ∙ ap (map row_of) (entries_under-free p t (λ y w i. apart y (w, i)))

  -- where a node stands strictly below p, p is no leaf
  pub path_below_no_leaf : (p y : List ℕ) (w : Tree (KeyValue K V)) → IsNodeAt t y w → IsStrictPrefix p y → IsLeaf m p → ⊥
  path_below_no_leaf p y w i s leaf =
      let r = reached_past (IsStored m) y p s.0 s.1 s.2 (node_point enc m t root y w i) in
      leaf r.0 r.1 (s.0, s.1 ++ r.2.0, r.2.1 ∙ ap (λ z. z ++ r.2.0) s.2 ∙ append_assoc p (s.0 ∷ s.1) r.2.0)

  -- where a node without children stands at p, p is a leaf
  pub childless_is_leaf : (p : List ℕ) (u : Tree (KeyValue K V)) → IsNodeAt t p u → u.children ≡ none → IsLeaf m p
  childless_is_leaf p u i end e stored s =
      let r = point_node enc m t root e (inr (inl stored)) in
      let at : IsNodeAt t (p ++ s.0 ∷ s.1) r.0 = subst (λ y. IsNodeAt t y r.0) s.2 r.1 in
      let child = node_up t p u (s.0 ∷ s.1) r.0 root.masked (cons_not_empty [] s.0 s.1) i at in
      subst (λ k. IsChildAt k (s.0 ∷ s.1) r.0) end child

  -- where a node stands at p and another below it, p is no leaf
  pub child_no_leaf : (p : List ℕ) (u : Tree (KeyValue K V)) → IsNodeAt t p u → (x : List ℕ) (w : Tree (KeyValue K V)) → x ≢ [] → IsChildAt u.children x w → IsLeaf m p → ⊥
  child_no_leaf p u i x w some k =
      let h = first_and_rest x some in path_below_no_leaf p (p ++ x) w (node_down t p u x w i k) (first x, h.0, ap (λ y. p ++ y) h.1)
