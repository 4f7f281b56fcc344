use Rattle.radix_trie.proofs.PathLemmas.Opened.{found_point, found_node, found_fragment}
use Rattle.radix_trie.proofs.trie.Trie.node_at.Goals as goal

pub returns-clause-point : goal.returns-clause-point
returns-clause-point g c = found_point g.K.TrieKey.encoding c.args.self.now c.root.result.now c.args.list.now c.root.ensures c.find.result c.find.ensures

pub returns-clause-node : goal.returns-clause-node
returns-clause-node g c = found_node g.K.TrieKey.encoding c.args.self.now c.root.result.now c.args.list.now c.root.ensures c.find.result c.find.ensures

pub returns-clause-fragment : goal.returns-clause-fragment
returns-clause-fragment g c = found_fragment g.K.TrieKey.encoding c.args.self.now c.root.result.now c.args.list.now c.root.ensures c.find.result c.find.ensures
