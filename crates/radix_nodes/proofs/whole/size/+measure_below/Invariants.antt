use Rattle.std.proofs.Common.{◌≡◌, ◌+◌, [], length, drop}
use Rattle.masked_tree.specs.Tree.{entries_at, nodes_in, nibbles_in}
use Rattle.masked_tree.specs.Sizes.{pair_count}
use Rattle.radix_nodes.specs.Nodes.{tree_of, children_of}
use Rattle.radix_nodes.proofs.whole.size.+measure_below.Given as goal

abbrev pub invariant-loop-child : goal.invariant-loop-child
invariant-loop-child g l = record {
  paired : l.pairs + pair_count (children_of (drop l.child-index l.child-items))
      ≡ l.fn.pairs + length (entries_at [] (tree_of l.node));
  noded : l.held.nodes + nodes_in (children_of (drop l.child-index l.child-items)) ≡ l.fn.held.nodes + nodes_in (tree_of l.node).children;
  nibbled : l.held.nibbles + nibbles_in (children_of (drop l.child-index l.child-items))
      ≡ l.fn.held.nibbles + (length (tree_of l.node).fragment + nibbles_in (tree_of l.node).children);
}

abbrev pub decreases-measure_below : goal.decreases-measure_below
decreases-measure_below g l = nodes_in (tree_of l.node.now).children
