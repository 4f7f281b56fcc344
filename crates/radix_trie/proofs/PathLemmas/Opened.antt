-- What a lookup of a point finds.
use Rattle.std.proofs.Common.{ℕ, List, ◌++◌, drop, Option, Some, None, MatchOption, IfSome, subst}
use Rattle.std.specs.Borrow.{Bor}
use Rattle.masked_tree.specs.Paths.{IsNodeAt}
use Rattle.nibble_map.specs.MapQueries.{IsFragment}
use Rattle.nibble_map.specs.Maps.{PairMap, IsPoint}
use Rattle.masked_tree.specs.Tree.{Tree}
use Rattle.radix_nodes.specs.declared.trie_node.KeyValue.{KeyValue}
use Rattle.radix_nodes.specs.declared.trie_node.TrieNode.{TrieNode}
use Rattle.radix_nodes.specs.Nodes.{tree_of, fragment_of}
use Rattle.radix_nodes.proofs.NodeLemmas.Nodes.{fragment-tree_of}
use Rattle.radix_trie.specs.Loci.{IsNodeOf}
use Rattle.radix_trie.specs.Roots.{IsRoot}
use Rattle.radix_trie.proofs.ChangeLemmas.Changes.{node_at_root, no_node_at_root}
use Rattle.radix_trie.proofs.RootLemmas.Paths.{node_point, point_node, node_fragment}

module _ {K V : Type 0} (enc : K → List ℕ) (m : PairMap K V) (root : TrieNode K V) (list : List ℕ) (is : IsRoot enc m (tree_of root)) where
  -- what a lookup of the list returns: the node that stands there, or that none stands there
  abbrev Found : Option (Bor (TrieNode K V)) → Type 0
  Found o = MatchOption o ((u : Tree (KeyValue K V)) → IsNodeAt (tree_of root) (fragment_of root ++ drop 0 list) u → ⊥)
      (λ n. IsNodeAt (tree_of root) (fragment_of root ++ drop 0 list) (tree_of n.now))

  -- a lookup that finds a node tells that the list is a point, else that it is none
  pub found_point : (o : Option (Bor (TrieNode K V))) → Found o → MatchOption o (IsPoint m list → ⊥) (λ _. IsPoint m list)
  found_point None apart = λ p. (let n = point_node enc m (tree_of root) is list p in no_node_at_root root list is.top apart n.0 n.1)
  found_point (Some n) here = node_point enc m (tree_of root) is list (tree_of n.now) (node_at_root root list (tree_of n.now) is.top here)

  -- the node that a lookup finds is the map's node at the list
  pub found_node : (o : Option (Bor (TrieNode K V))) → Found o → IfSome o (λ n. IsNodeOf enc m list (tree_of n.now))
  found_node None apart = tt
  found_node (Some n) here = (tree_of root, is, node_at_root root list (tree_of n.now) is.top here)

  -- the fragment of the node that a lookup finds is the map's fragment of the list
  pub found_fragment : (o : Option (Bor (TrieNode K V))) → Found o → IfSome o (λ n. IsFragment m list (fragment_of n.now))
  found_fragment None apart = tt
  found_fragment (Some n) here =
      subst (IsFragment m list) (fragment-tree_of n.now) (node_fragment enc m (tree_of root) is list (tree_of n.now) (node_at_root root list (tree_of n.now) is.top here))
