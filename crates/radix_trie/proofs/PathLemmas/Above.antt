-- The nearest pair, and the nearest point, above a list.
use Rattle.std.proofs.Common.{◌≡◌, ℕ, ◌-◌, List, ◌++◌, drop, take, Option, MatchOption, None, option_map, Some, Bor, refl, ap, subst, ◌∙◌, sym, arith}
use Rattle.nibble_map.specs.Answers.{IsLongest}
use Rattle.masked_tree.specs.Tree.{Tree}
use Rattle.masked_tree.specs.Paths.{IsHeld, IsNodeAt, IsPath}
use Rattle.nibble_map.specs.Lists.{Has, IsPrefix}
use Rattle.nibble_map.specs.Maps.{PairMap, IsPoint, IsStored}
use Rattle.nibble_map.proofs.MapLemmas.Edits.{stored_by_entries}
use Rattle.nibble_map.proofs.PointLemmas.Moves.{longest_moves}
use Rattle.radix_nodes.specs.declared.trie_node.KeyValue.{KeyValue}
use Rattle.radix_nodes.specs.declared.trie_node.TrieNode.{TrieNode}
use Rattle.radix_nodes.specs.Pairs.{pair_of}
use Rattle.radix_nodes.specs.Nodes.{tree_of, fragment_of, on_way, IsDeepest}
use Rattle.radix_nodes.specs.Searches.{FindsDeepestPair}
use Rattle.radix_nodes.proofs.NodeLemmas.Nodes.{fragment-tree_of}
use Rattle.radix_trie.specs.Loci.{IsNodeOf}
use Rattle.radix_trie.specs.Roots.{IsRoot}
use Rattle.radix_trie.specs.Views.{IsPairAbove}
use Rattle.radix_trie.proofs.RootLemmas.Held.{pair_of-node}
use Rattle.radix_trie.proofs.RootLemmas.Paths.{node_point, point_node}
use Rattle.radix_trie.proofs.RootLemmas.Roots.{stored-root_entries}

module _ {K V : Type 0} (enc : K → List ℕ) (m : PairMap K V) (root : TrieNode K V) (list : List ℕ) (is : IsRoot enc m (tree_of root)) where
  -- the root's tree
  abbrev tree : Tree (KeyValue K V)
  tree = tree_of root

  -- what the map stores the root holds
  to_held : (e : List ℕ) → IsStored m e → IsHeld tree e
  to_held e h = subst (λ ks. Has ks e) (stored-root_entries enc m tree is) ((stored_by_entries m e).1 h)

  -- what the root holds the map stores
  to_stored : (e : List ℕ) → IsHeld tree e → IsStored m e
  to_stored e h = (stored_by_entries m e).0 (subst (λ ks. Has ks e) (sym (stored-root_entries enc m tree is)) h)

  -- the list behind the root's fragment, which is empty, is that list
  whole_list : fragment_of root ++ drop 0 list ≡ list
  whole_list = ap (λ f. f ++ list) (sym (fragment-tree_of root) ∙ is.top)

  -- what is found on the way to the list stands after its first nibbles
  module _ (S : List ℕ → Type 0) (u : Tree (KeyValue K V)) (end : ℕ) (d : IsDeepest S tree u list 0 end) where
    -- the path that was found is the list's first nibbles
    on_way-list : on_way tree.fragment list 0 end ≡ take end list
    on_way-list = ap (λ f. f ++ take (end - 0) list) is.top ∙ ap (λ n. take n list) (omega arith)

    -- the node that was found stands at the list's first nibbles
    node_on_way : IsNodeAt tree (take end list) u
    node_on_way = subst (λ y. IsNodeAt tree y u) on_way-list d.node

    -- the node found on the way to a list is the map's node at the list's first nibbles
    pub way_node : IsNodeOf enc m (take end list) u
    way_node = (tree, is, node_on_way)

    -- the list's first nibbles are the longest list of S that is a prefix of it
    longest_on_way : IsLongest S list (take end list)
    longest_on_way = subst (IsLongest S list) on_way-list (subst (λ e. IsLongest S e (on_way tree.fragment list 0 end)) (ap (λ f. f ++ list) is.top) d.longest)

  module _ (u : Tree (KeyValue K V)) (end : ℕ) where
    -- the deepest pair on the way to a list stands at the longest stored prefix of the list
    pub longest_stored : IsDeepest (IsHeld tree) tree u list 0 end → IsLongest (IsStored m) list (take end list)
    longest_stored d = longest_moves (IsHeld tree) (IsStored m) to_stored to_held list (take end list) (longest_on_way (IsHeld tree) u end d)

    -- the deepest node on the way to a list stands at the longest point that is a prefix of it
    pub longest_point : IsDeepest (IsPath tree) tree u list 0 end → IsLongest (IsPoint m) list (take end list)
    longest_point d =
        longest_moves (IsPath tree) (IsPoint m) (λ q h. node_point enc m tree is q h.0 h.1) (point_node enc m tree is) list (take end list) (longest_on_way (IsPath tree) u end d)

    -- the deepest pair on the way to a list is the pair above the list
    pair_above : IsDeepest (IsHeld tree) tree u list 0 end → IsPairAbove m list (option_map pair_of u.pair)
    pair_above d = (
      Some (take end list),
      longest_stored d,
      pair_of-node enc m tree is (take end list) u (node_on_way (IsHeld tree) u end d),
    )

  -- where the root holds no prefix of a list, the map stores none
  pub none_stored_above : ((q : List ℕ) → IsHeld tree q → IsPrefix q (fragment_of root ++ drop 0 list) → ⊥) → (q : List ℕ) → IsStored m q → IsPrefix q list → ⊥
  none_stored_above apart q s a = apart q (to_held q s) (subst (IsPrefix q) (sym whole_list) a)

  -- where the root holds no prefix of a list, there is no pair above the list
  no_pair_above : ((q : List ℕ) → IsHeld tree q → IsPrefix q (fragment_of root ++ drop 0 list) → ⊥) → IsPairAbove m list None
  no_pair_above apart = (None, none_stored_above apart, refl)

  -- what a search's deepest pair tells, or none where it has found none, is the pair above the list
  pub found_above : (r : Option (Bor (TrieNode K V) × ℕ)) (p : Option (K × V)) → FindsDeepestPair r root list 0 → MatchOption r (p ≡ None) (λ d. p ≡ option_map pair_of (tree_of d.0.now).pair) → IsPairAbove m list p
  found_above None p free none = subst (IsPairAbove m list) (sym none) (no_pair_above free)
  found_above (Some d) p found some = subst (IsPairAbove m list) (sym some) (pair_above (tree_of d.0.now) d.1 found)
