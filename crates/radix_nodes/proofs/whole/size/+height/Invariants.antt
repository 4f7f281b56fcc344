use Rattle.std.proofs.Common.{◌≡◌, max, drop}
use Rattle.masked_tree.specs.Sizes.{levels}
use Rattle.radix_nodes.specs.Nodes.{tree_of, children_of}
use Rattle.radix_nodes.proofs.whole.size.+height.Given as goal

abbrev pub invariant-loop-child : goal.invariant-loop-child
invariant-loop-child g l = max l.most (levels (children_of (drop l.child-index l.child-items))) ≡ levels (tree_of l.node).children
