use Rattle.masked_tree.specs.Tree.{nodes_in}
use Rattle.radix_nodes.specs.Nodes.{tree_of}
use Rattle.radix_nodes.proofs.removal.pop.+pop_below.Given as goal

abbrev pub decreases-pop_below : goal.decreases-pop_below
decreases-pop_below g l = nodes_in (tree_of l.node.now).children
