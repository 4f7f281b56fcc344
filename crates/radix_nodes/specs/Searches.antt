-- What searches of a tree return. Each starts at a node n that stands at `depth`: so many
-- nibbles of the key lie behind it.
use Rattle.std.specs.Prelude.{ℕ, ◌++◌, List, Option, MatchOption, drop}
use Rattle.std.specs.Borrow.{Bor}
use Rattle.nibble_map.specs.Lists.{IsPrefix, Counts}
use Rattle.masked_tree.specs.Paths.{IsNodeAt, IsPath, IsHeld, IsOnWay}
use Rattle.masked_tree.specs.Tree.{Tree}
use Rattle.radix_nodes.specs.declared.trie_node.KeyValue.{KeyValue}
use Rattle.radix_nodes.specs.declared.trie_node.TrieNode.{TrieNode}
use Rattle.radix_nodes.specs.Nodes.{tree_of, fragment_of, IsDeepest, IsNearest}

module _ {K V : Type 0} where
  -- the path that the key leads to, from the node on
  abbrev pub path_on : TrieNode K V → List ℕ → ℕ → List ℕ
  path_on n key depth = fragment_of n ++ drop depth key

  -- the node at that path
  abbrev pub FindsNode : Option (Bor (TrieNode K V)) → TrieNode K V → List ℕ → ℕ → Type 0
  FindsNode r n key depth =
      MatchOption r ((u : Tree (KeyValue K V)) → IsNodeAt (tree_of n) (path_on n key depth) u → ⊥)
      (λ m. IsNodeAt (tree_of n) (path_on n key depth) (tree_of m.now))

  -- so many nodes have paths that begin it
  abbrev pub Visits : ℕ → TrieNode K V → List ℕ → ℕ → Type 0
  Visits count n key depth = Counts (IsOnWay (tree_of n) (path_on n key depth)) count

  -- the node with the longest path that begins it, and how many nibbles of the key that is
  abbrev pub FindsDeepest : Bor (TrieNode K V) × ℕ → TrieNode K V → List ℕ → ℕ → Type 0
  FindsDeepest r n key depth =
      IsDeepest (IsPath (tree_of n)) (tree_of n) (tree_of r.0.now) key depth r.1

  -- the same of the nodes that hold a pair
  abbrev pub FindsDeepestPair : Option (Bor (TrieNode K V) × ℕ) → TrieNode K V → List ℕ → ℕ
      → Type 0
  FindsDeepestPair r n key depth =
      MatchOption r
      ((q : List ℕ) → IsHeld (tree_of n) q → IsPrefix q (path_on n key depth) → ⊥)
      (λ m. IsDeepest (IsHeld (tree_of n)) (tree_of n) (tree_of m.0.now) key depth m.1)

  -- the node with the shortest path that it begins, and how many nibbles of its fragment lie within
  abbrev pub FindsShortest : Option (Bor (TrieNode K V) × ℕ) → TrieNode K V → List ℕ → ℕ → Type 0
  FindsShortest r n key depth =
      MatchOption r
      ((q : List ℕ) → IsPath (tree_of n) q → IsPrefix (path_on n key depth) q → ⊥)
      (λ m. IsNearest (tree_of n) (tree_of m.0.now) (path_on n key depth) m.1)
