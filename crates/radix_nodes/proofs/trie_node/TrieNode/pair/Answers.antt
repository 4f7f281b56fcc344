use Rattle.radix_nodes.proofs.NodeLemmas.Pointed.{pair_pointed}
use Rattle.radix_nodes.proofs.trie_node.TrieNode.pair.Goals as goal

pub returns : goal.returns
returns g c = pair_pointed c.args.self.now c.as_deref.result c.as_deref.ensures.cases
