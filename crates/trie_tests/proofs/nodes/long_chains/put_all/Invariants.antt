use Rattle.masked_tree.specs.Tree.{IsTreePlaced}
use Rattle.radix_nodes.specs.Nodes.{tree_of}
use Rattle.trie_tests.proofs.nodes.long_chains.put_all.Given as goal

abbrev pub invariant-loop-key : goal.invariant-loop-key
invariant-loop-key g l = IsTreePlaced (tree_of l.root)
