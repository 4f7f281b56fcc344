use Rattle.std.proofs.Common.{◌≡◌, [], ◌++◌}
use Rattle.std.specs.declared.ops.Bound.TheVariants.{Unbounded}
use Rattle.masked_tree.specs.Sizes.{levels}
use Rattle.masked_tree.specs.Tree.{IsFullBelow, IsTreePlaced}
use Rattle.radix_nodes.specs.Nodes.{tree_of}
use Rattle.radix_trie.specs.Walks.{HasFullRows, ReachesDown, bound_behind, bound_now, left_in, left_rows, pairs_of_span}
use Rattle.radix_trie.proofs.iter.span.push_earlier.Given as goal

abbrev pub invariant-loop-child : goal.invariant-loop-child
invariant-loop-child g l = record {
  reaches : ReachesDown l.done (bound_now l.high);
  placed : IsTreePlaced (tree_of l.at);
  full : IsFullBelow (tree_of l.at);
  rows : HasFullRows (left_rows l.list.items);
  same : left_in l.list.items ++ pairs_of_span Unbounded (bound_behind l.done (bound_now l.high)) (tree_of l.at)
      ≡ left_in l.fn.list.items ++ pairs_of_span Unbounded (bound_behind l.depth (bound_now l.high)) (tree_of l.node);
  none : pairs_of_span Unbounded (bound_behind l.depth (bound_now l.high)) (tree_of l.node) ≡ [] → pairs_of_span Unbounded (bound_behind l.done (bound_now l.high)) (tree_of l.at) ≡ [];
}

abbrev pub decreases-loop-child : goal.decreases-loop-child
decreases-loop-child g l = levels (tree_of l.at).children
