use Rattle.masked_tree.specs.Tree.{IsTreePlaced}
use Rattle.radix_nodes.specs.Nodes.{tree_of}
use Rattle.trie_tests.proofs.nodes.long_chains.take_from_the_end.Given as goal

abbrev pub invariant-loop-shorter : goal.invariant-loop-shorter
invariant-loop-shorter g l = IsTreePlaced (tree_of l.root)
