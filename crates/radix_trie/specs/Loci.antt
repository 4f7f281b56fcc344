-- Where a path stands in the tree of a trie.
use Rattle.std.specs.FinMap as map
use Rattle.std.specs.Prelude.{◌<◌, ◌^◌, ℕ, List, [], ◌∷◌, ◌++◌, Option, MatchOption}
use Rattle.std.specs.Borrow.{Bor}
use Rattle.masked_tree.specs.Tree.{Tree, Children, none, more}
use Rattle.masked_tree.specs.Paths.{IsNodeAt, IsPath}
use Rattle.nibble_map.specs.Lists.{IsPrefix}
use Rattle.nibble_map.specs.Maps.{PairMap}
use Rattle.radix_nodes.specs.declared.trie_node.KeyValue.{KeyValue}
use Rattle.radix_nodes.specs.declared.trie_node.TrieNode.{TrieNode}
use Rattle.radix_nodes.specs.Nodes.{tree_of, IsNearest}
use Rattle.radix_trie.specs.declared.locus.Locus.{Locus}
use Rattle.radix_trie.specs.Roots.{IsRoot}
use Rattle.radix_trie.specs.Views.{ReadView}

module _ {K V : Type 0} where
  -- u is the node at p in the map's tree
  abbrev pub IsNodeOf : (K → List ℕ) → PairMap K V → List ℕ → Tree (KeyValue K V) → Type 0
  IsNodeOf enc m p u = (t : Tree (KeyValue K V)) × IsRoot enc m t × IsNodeAt t p u

  -- what was found is the node with the shortest path that p begins, and how many nibbles of its
  -- fragment lie within p
  abbrev pub IsLocus : (K → List ℕ) → PairMap K V → List ℕ
      → Option (Bor (TrieNode K V) × ℕ) → Type 0
  IsLocus enc m p found = (t : Tree (KeyValue K V)) × IsRoot enc m t
      × MatchOption found ((q : List ℕ) → IsPath t q → IsPrefix p q → ⊥)
      (λ r. IsNearest t (tree_of r.0.now) p r.1)

  -- the place is that of p in a trie with the map m
  abbrev pub IsLocusIn : (K → List ℕ) → PairMap K V → List ℕ → Locus K V → Type 0
  IsLocusIn enc m p locus = IsLocus enc m p locus.found × (map.len m < 2 ^ 64)

  -- the place is that of some path in some trie
  abbrev pub IsSomeLocus : (K → List ℕ) → Locus K V → Type 0
  IsSomeLocus enc locus = (m : PairMap K V) × (p : List ℕ) × IsLocusIn enc m p locus

  -- the views at some children of a node at p
  abbrev pub child_views : PairMap K V → List ℕ → Children (KeyValue K V) → List (ReadView K V)
  child_views m p none = []
  child_views m p (more f o k children others) =
      record { map = m; path = p ++ f } ∷ child_views m p others
