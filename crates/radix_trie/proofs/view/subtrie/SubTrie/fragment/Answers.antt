use Rattle.std.proofs.Common.{subst}
use Rattle.nibble_map.specs.MapQueries.{IsFragment}
use Rattle.radix_nodes.specs.Nodes.{tree_of}
use Rattle.radix_nodes.proofs.NodeLemmas.Nodes.{fragment-tree_of}
use Rattle.radix_trie.proofs.RootLemmas.Paths.{node_fragment}
use Rattle.radix_trie.proofs.view.subtrie.SubTrie.fragment.Goals as goal

pub returns : goal.returns
returns g c =
    let at = c.self.invariant in
    rw (← c.self.view_is)
    (subst (IsFragment c.self.inside.trie.now c.self.inside.path) (fragment-tree_of c.self.inside.node.now)
    (node_fragment g.K.TrieKey.encoding c.self.inside.trie.now at.0 at.1 c.self.inside.path (tree_of c.self.inside.node.now) at.2))
