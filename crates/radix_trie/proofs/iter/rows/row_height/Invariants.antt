use Rattle.std.proofs.Common.{◌≡◌, drop, max}
use Rattle.masked_tree.specs.Sizes.{levels}
use Rattle.radix_nodes.specs.Nodes.{children_of}
use Rattle.radix_trie.proofs.iter.rows.row_height.Given as goal

abbrev pub invariant-loop-node : goal.invariant-loop-node
invariant-loop-node g l = max l.most (levels (children_of (drop l.node-index l.row))) ≡ levels (children_of l.row)
