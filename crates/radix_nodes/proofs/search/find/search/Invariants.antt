use Rattle.std.proofs.Common.{◌≡◌, ℕ, suc, ◌+◌, ◌≤◌, ◌-◌, length, drop, Option, Bor}
use Rattle.std.specs.Option.{option_or}
use Rattle.nibble_map.specs.Trees.{walked}
use Rattle.masked_tree.specs.Tree.{IsTreePlaced, plain}
use Rattle.radix_nodes.specs.declared.trie_node.TrieNode.{TrieNode}
use Rattle.radix_nodes.specs.Nodes.{tree_of}
use Rattle.radix_nodes.specs.Searches.{FindsDeepestPair, FindsNode, Visits}
use Rattle.radix_nodes.proofs.search.find.search.Given as goal

abbrev pub invariant-loop-best : goal.invariant-loop-best
invariant-loop-best g l = record {
  inside : l.done ≤ length l.list;
  placed : IsTreePlaced (tree_of l.at);
  leads : (r : Option (Bor (TrieNode g.row.K.Denot g.row.V.Denot)))
      → FindsNode r l.at l.list l.done → FindsNode r l.node l.list l.depth;
  nearest : (r : Option (Bor (TrieNode g.row.K.Denot g.row.V.Denot) × ℕ))
      → FindsDeepestPair r l.at l.list l.done → FindsDeepestPair (option_or r l.best) l.node l.list l.depth;
  few : l.cost.nodes ≤ suc l.done;
  visits : (count : ℕ) → Visits (suc count) l.at l.list l.done → Visits (l.cost.nodes + count) l.node l.list l.depth;
  count : l.cost.nibbles + walked (plain (tree_of l.at).children) (drop l.done l.list)
      ≡ walked (plain (tree_of l.node).children) (drop l.depth l.list);
}

abbrev pub decreases-loop-best : goal.decreases-loop-best
decreases-loop-best g l = length l.list - l.done
