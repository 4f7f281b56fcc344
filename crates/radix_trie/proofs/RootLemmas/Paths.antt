-- The nodes of a kept root are the points of its map, each with its point's fragment.
use Rattle.std.proofs.Common.{◌≡◌, inl, inr, ℕ, ◌*◌, ◌≤◌, max, List, [], ◌∷◌, ◌++◌, option_map, refl, ap, sym, subst, ◌∙◌, append_assoc, arith}
use Rattle.std.specs.FinMap as map
use Rattle.masked_tree.specs.Tree.{Tree, Children, none, more}
use Rattle.masked_tree.specs.Paths.{IsChildAt, IsNodeAt, IsOnWay, IsPath}
use Rattle.nibble_map.specs.Lists.{Has, Counts}
use Rattle.nibble_map.specs.MapQueries.{IsFragment, IsVisited}
use Rattle.nibble_map.specs.Maps.{PairMap, IsPoint}
use Rattle.nibble_map.specs.Trees as trees
use Rattle.nibble_map.specs.Trees.{nodes, nodes_below, paths}
use Rattle.nibble_map.proofs.ListLemmas.Unique.{Each-has}
use Rattle.nibble_map.proofs.ListLemmas.Members.{Has-left, Has-right, Has-cases, paths-append}
use Rattle.nibble_map.proofs.PointLemmas.Moves.{lists_moves}
use Rattle.nibble_map.proofs.PointLemmas.Visited.{prefixes_are_fewer}
use Rattle.nibble_map.proofs.TreeLemmas.OneTree.{node_count, few_nodes, fragments_are}
use Rattle.radix_nodes.specs.declared.trie_node.KeyValue.{KeyValue}
use Rattle.radix_nodes.specs.Pairs.{pair_of}
use Rattle.radix_trie.specs.Roots.{shown_children, shown, IsRoot}

-- a node's path is among the nodes' paths
has_path : {P : Type 0} (ns : List (trees.Node P)) (n : trees.Node P) → Has ns n → Has (paths ns) n.path
has_path [] n h = absurd h
has_path (m ∷ ns) n (inl i) = inl (ap (λ z. z.path) i)
has_path (m ∷ ns) n (inr h) = inr (has_path ns n h)

module _ {K V : Type 0} where
  -- a kept node at q as a node of the tree of fragments
  abbrev node_of : List ℕ → Tree (KeyValue K V) → trees.Node (K × V)
  node_of q u = record { path = q; fragment = u.fragment; pair = option_map pair_of u.pair }

  -- a node below some children is among the shown nodes, at its whole path
  child_node : (q : List ℕ) (k : Children (KeyValue K V)) (x : List ℕ) (u : Tree (KeyValue K V)) → IsChildAt k x u → Has (nodes_below q (shown_children k)) (node_of (q ++ x) u)
  child_node q none x u h = absurd h
  child_node q (more f o m children others) x u (inl h) = inl (λ i. node_of (q ++ h.0 i) (h.1 i))
  child_node q (more f o m children others) x u (inr (inl h)) =
      inr (Has-left (nodes_below (q ++ f) (shown_children children)) (nodes_below q (shown_children others)) _
      (subst (λ p. Has (nodes_below (q ++ f) (shown_children children)) (node_of p u)) (append_assoc q f h.0 ∙ ap (λ y. q ++ y) (sym h.1)) (child_node (q ++ f) children h.0 u h.2)))
  child_node q (more f o m children others) x u (inr (inr h)) =
      inr (Has-right (nodes_below (q ++ f) (shown_children children)) (nodes_below q (shown_children others)) _ (child_node q others x u h))

  -- below these children, whose parent stands at q, some node has the whole path p
  abbrev ChildTo : List ℕ → Children (KeyValue K V) → List ℕ → Type 0
  ChildTo q k p = (x : List ℕ) × (p ≡ q ++ x) × (u : Tree (KeyValue K V)) × IsChildAt k x u

  -- each path of the shown nodes leads to a node below the children
  path_child : (q : List ℕ) (k : Children (KeyValue K V)) (p : List ℕ) → Has (paths (nodes_below q (shown_children k))) p → ChildTo q k p
  path_child q none p h = absurd h
  path_child q (more f o m children others) p (inl e) = (f, e, record { fragment = f; pair = o; mask = m; children = children }, inl (refl, refl))
  path_child q (more f o m children others) p (inr h) =
      elim (Has-cases (paths (nodes_below (q ++ f) (shown_children children))) (paths (nodes_below q (shown_children others))) p
      (subst (λ ps. Has ps p) (paths-append (nodes_below (q ++ f) (shown_children children)) (nodes_below q (shown_children others))) h)) [
        | inl i ↦ (let r = path_child (q ++ f) children p i in (f ++ r.0, r.1 ∙ append_assoc q f r.0, r.2, inr (inl (r.0, refl, r.3))))
        | inr i ↦ (let r = path_child q others p i in (r.0, r.1, r.2, inr (inr r.3)))
      ]

  -- a node of the kept root is among the shown nodes
  node_in : (t : Tree (KeyValue K V)) (q : List ℕ) (u : Tree (KeyValue K V)) → t.fragment ≡ [] → IsNodeAt t q u → Has (nodes (shown t)) (node_of q u)
  node_in t q u top (inl h) = inl (λ i. record { path = (h.0 ∙ top) i; fragment = (ap (λ (v : Tree (KeyValue K V)). v.fragment) h.1 ∙ top) i; pair = option_map pair_of (h.1 i).pair })
  node_in t q u top (inr h) =
      inr (subst (λ p. Has (nodes_below [] (shown_children t.children)) (node_of p u)) (sym (h.1 ∙ ap (λ f. f ++ h.0) top)) (child_node [] t.children h.0 u h.2))

  -- a path of the shown nodes is a path of the kept root
  in_node : (t : Tree (KeyValue K V)) (q : List ℕ) → t.fragment ≡ [] → Has (paths (nodes (shown t))) q → IsPath t q
  in_node t q top (inl e) = (t, inl (e ∙ sym top, refl))
  in_node t q top (inr h) =
      let r = path_child [] t.children q h in
      (r.2, inr (r.0, r.1 ∙ ap (λ f. f ++ r.0) (sym top), r.3))

module _ {K V : Type 0} (enc : K → List ℕ) (m : PairMap K V) (t : Tree (KeyValue K V)) (root : IsRoot enc m t) where
  -- the path of a root's node is a point of the map
  pub node_point : (q : List ℕ) (u : Tree (KeyValue K V)) → IsNodeAt t q u → IsPoint m q
  node_point q u h = (root.canonical.exact.exactly q).0 (has_path (nodes (shown t)) (node_of q u) (node_in t q u root.top h))

  -- at each point of the map stands a node of the root
  pub point_node : (q : List ℕ) → IsPoint m q → IsPath t q
  point_node q p = in_node t q root.top ((root.canonical.exact.exactly q).1 p)

  -- the root's nodes on the way to a list are as many as the map says
  pub found_visits : (q : List ℕ) (n : ℕ) → Counts (IsOnWay t q) n → IsVisited m q n
  found_visits q n c = record {
    list = c.list;
    lists = lists_moves _ _ (λ x h. (node_point x h.0.0 h.0.1, h.1)) (λ x h. (point_node x h.0, h.1)) c.list c.lists;
    length_is = c.length_is;
  }

  -- they are at most two a pair, or the root alone
  pub visits_two_a_pair : (q : List ℕ) (n : ℕ) → IsVisited m q n → n ≤ max 1 (2 * map.len m)
  visits_two_a_pair q n v =
      let fewer = prefixes_are_fewer (IsPoint m) q n _ v (node_count (shown t) m root.canonical) in
      let few = few_nodes (shown t) m root.canonical in
      omega (arith, fewer, few)

  -- a node's fragment is the map's fragment of its path
  pub node_fragment : (q : List ℕ) (u : Tree (KeyValue K V)) → IsNodeAt t q u → IsFragment m q u.fragment
  node_fragment q u h =
      Each-has (λ (n : trees.Node (K × V)). IsFragment m n.path n.fragment) (nodes (shown t)) (node_of q u) (fragments_are (shown t) m root.canonical) (node_in t q u root.top h)
