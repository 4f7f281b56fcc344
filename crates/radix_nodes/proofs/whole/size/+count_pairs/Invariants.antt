use Rattle.std.proofs.Common.{◌≡◌, ◌+◌, [], length, drop}
use Rattle.masked_tree.specs.Tree.{entries_at, nodes_in}
use Rattle.masked_tree.specs.Sizes.{pair_count}
use Rattle.radix_nodes.specs.Nodes.{tree_of, children_of}
use Rattle.radix_nodes.proofs.whole.size.+count_pairs.Given as goal

abbrev pub invariant-loop-child : goal.invariant-loop-child
invariant-loop-child g l =
    l.count + pair_count (children_of (drop l.child-index l.child-items)) ≡ length (entries_at [] (tree_of l.node))

abbrev pub decreases-count_pairs : goal.decreases-count_pairs
decreases-count_pairs g l = nodes_in (tree_of l.node.now).children
