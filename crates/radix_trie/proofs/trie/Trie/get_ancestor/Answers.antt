use Rattle.masked_tree.specs.Paths.{IsHeld}
use Rattle.radix_nodes.specs.Nodes.{tree_of}
use Rattle.radix_trie.proofs.PathLemmas.Above.{longest_stored, none_stored_above, way_node}
use Rattle.radix_trie.proofs.trie.Trie.get_ancestor.Goals as goal

pub returns-in_default-clause-nearest : goal.returns-in_default-clause-nearest
returns-in_default-clause-nearest g c =
    rw (← c.in_ok-list.ensures.ok) (none_stored_above g.K.TrieKey.encoding c.args.self.now c.root.result.now c.in_ok-list.list c.root.ensures c.in_default.ensures)

pub view_within-requires : goal.view_within-requires
view_within-requires g c = record {
  within = c.in-Some.ensures.inside;
  node = way_node g.K.TrieKey.encoding c.args.self.now c.root.result.now c.in_ok-list.list c.root.ensures (IsHeld (tree_of c.root.result.now)) (tree_of c.in-Some.node.now) c.in-Some.depth c.in-Some.ensures;
}

pub returns-clause-nearest : goal.returns-clause-nearest
returns-clause-nearest g c =
    rw (c.view_within.ensures.path, ← c.in_ok-list.ensures.ok)
    (longest_stored g.K.TrieKey.encoding c.args.self.now c.root.result.now c.in_ok-list.list c.root.ensures (tree_of c.in-Some.node.now) c.in-Some.depth c.in-Some.ensures)
