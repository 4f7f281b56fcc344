use Rattle.std.proofs.Common.{◌≡◌, ◌≤◌}
use Rattle.masked_tree.specs.Sizes.{levels}
use Rattle.masked_tree.specs.Tree.{IsFullBelow, IsTreePlaced}
use Rattle.radix_nodes.specs.Nodes.{tree_of}
use Rattle.radix_trie.specs.Walks.{ReachesDown, bound_behind, bound_now, pairs_of_span}
use Rattle.radix_trie.proofs.iter.span.parting.part.Given as goal

abbrev pub invariant-loop-below : goal.invariant-loop-below
invariant-loop-below g l = record {
  low : ReachesDown l.done (bound_now l.low);
  high : ReachesDown l.done (bound_now l.high);
  placed : IsTreePlaced (tree_of l.at);
  full : IsFullBelow (tree_of l.at);
  same : pairs_of_span (bound_behind l.done (bound_now l.low)) (bound_behind l.done (bound_now l.high)) (tree_of l.at)
      ≡ pairs_of_span (bound_behind l.depth (bound_now l.low)) (bound_behind l.depth (bound_now l.high)) (tree_of l.node);
  lower : levels (tree_of l.at).children ≤ levels (tree_of l.node).children;
}

abbrev pub decreases-loop-below : goal.decreases-loop-below
decreases-loop-below g l = levels (tree_of l.at).children
