-- The nearest point below a path, by what is found for the path.
use Rattle.std.proofs.Common.{◌≡◌, ℕ, List, ◌++◌, drop, Option, Some, None, subst}
use Rattle.std.specs.Borrow.{Bor}
use Rattle.nibble_map.specs.Answers.{IsShortest}
use Rattle.nibble_map.specs.Lists.{IsPrefix}
use Rattle.nibble_map.specs.Maps.{PairMap, IsPoint}
use Rattle.radix_nodes.specs.declared.trie_node.TrieNode.{TrieNode}
use Rattle.radix_nodes.specs.Nodes.{tree_of, fragment_of}
use Rattle.radix_nodes.proofs.NodeLemmas.Nodes.{fragment-tree_of}
use Rattle.radix_trie.specs.Loci.{IsLocus}
use Rattle.radix_trie.proofs.RootLemmas.Paths.{point_node}
use Rattle.radix_trie.proofs.PathLemmas.Loci.{no_path_found, nearest_found}
use Rattle.radix_trie.proofs.PathLemmas.NodesBelow.{shortest_point}

module _ {K V : Type 0} (enc : K → List ℕ) (m : PairMap K V) (p : List ℕ) (found : Option (Bor (TrieNode K V) × ℕ)) (locus : IsLocus enc m p found) where
  -- the found node's path is the shortest point that p is a prefix of
  pub nearest_point : (r : Bor (TrieNode K V)) (n : ℕ) → found ≡ Some (r, n) → IsShortest (IsPoint m) p (p ++ drop n (fragment_of r.now))
  nearest_point r n is =
      subst (λ f. IsShortest (IsPoint m) p (p ++ drop n f)) (fragment-tree_of r.now)
      (shortest_point enc m locus.0 locus.1 p (p ++ drop n (tree_of r.now).fragment) (nearest_found enc m p found locus r n is).shortest)

  -- where nothing was found for p, no point has the prefix p
  pub no_point_below : found ≡ None → (q : List ℕ) → IsPoint m q → IsPrefix p q → ⊥
  no_point_below e q point = no_path_found enc m p found locus e q (point_node enc m locus.0 locus.1 q point)
