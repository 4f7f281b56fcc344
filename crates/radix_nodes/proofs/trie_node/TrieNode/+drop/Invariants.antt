use Rattle.radix_nodes.proofs.NodeLemmas.Dropping.{work}
use Rattle.radix_nodes.proofs.trie_node.TrieNode.+drop.Given as goal

abbrev pub decreases-drop : goal.decreases-drop
decreases-drop g l = goal.size-drop g l

abbrev pub decreases-loop-children : goal.decreases-loop-children
decreases-loop-children g l = work l.self
