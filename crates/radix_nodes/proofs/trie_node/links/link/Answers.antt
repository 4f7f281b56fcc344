use Rattle.radix_nodes.proofs.NodeLemmas.Nodes.{tree_of-linked}
use Rattle.radix_nodes.proofs.trie_node.links.link.Goals as goal

pub returns : goal.returns
returns g c = tree_of-linked c.args.node.now c.insert.new.self _ c.args.i c.args.nibble c.args.child (rw c.unwrap.ensures at c.insert.ensures.items) c.mark-node.ensures
