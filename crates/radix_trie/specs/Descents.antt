-- What clauses see of a descent.
use Rattle.std.specs.Prelude.{ℕ, List, [], ◌++◌, Option, Some, None, drop, map as each}
use Rattle.std.specs.Borrow.{Bor}
use Rattle.std.specs.FinMap as finite
use Rattle.masked_tree.specs.Tree.{entries_in}
use Rattle.nibble_map.specs.Maps.{PairMap}
use Rattle.nibble_map.specs.Swaps.{entry}
use Rattle.radix_nodes.specs.declared.trie_node.TrieNode.{TrieNode}
use Rattle.radix_nodes.specs.Nodes.{tree_of}
use Rattle.radix_nodes.specs.Pairs.{pair_of}

module _ {K V : Type 0} where
  -- the pairs at and below a path by what was found for it, each with what its list has behind the
  -- path
  abbrev pub rows_behind : Option (Bor (TrieNode K V) × ℕ) → List (List ℕ × (K × V))
  rows_behind None = []
  rows_behind (Some r) = let u = tree_of r.0.now in let rest = drop r.1 u.fragment in
      each (λ e. (e.0, pair_of e.1)) (entry rest u.pair ++ entries_in rest u.children)

  -- the same as a map
  abbrev pub map_behind_path : Option (Bor (TrieNode K V) × ℕ) → PairMap K V
  map_behind_path found = finite.from_sorted (rows_behind found)
