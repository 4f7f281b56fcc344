use Rattle.std.proofs.Common.{ℕ, ◌≤◌, ◌-◌, length, Option, Bor}
use Rattle.masked_tree.specs.Tree.{IsTreePlaced}
use Rattle.radix_nodes.specs.declared.trie_node.TrieNode.{TrieNode}
use Rattle.radix_nodes.specs.Nodes.{tree_of}
use Rattle.radix_nodes.specs.Searches.{FindsDeepest, FindsShortest}
use Rattle.radix_nodes.proofs.search.queries.descend.Given as goal

abbrev pub invariant-loop-done : goal.invariant-loop-done
invariant-loop-done g l = record {
  inside : l.done ≤ length l.list;
  placed : IsTreePlaced (tree_of l.at);
  deepest : (r : Bor (TrieNode g.row.K.Denot g.row.V.Denot) × ℕ)
      → FindsDeepest r l.at l.list l.done → FindsDeepest r l.node l.list l.depth;
  shortest : (r : Option (Bor (TrieNode g.row.K.Denot g.row.V.Denot) × ℕ))
      → FindsShortest r l.at l.list l.done → FindsShortest r l.node l.list l.depth;
}

abbrev pub decreases-loop-done : goal.decreases-loop-done
decreases-loop-done g l = length l.list - l.done
