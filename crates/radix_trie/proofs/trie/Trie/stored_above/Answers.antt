use Rattle.radix_nodes.specs.Nodes.{tree_of}
use Rattle.radix_trie.proofs.PathLemmas.Above.{longest_stored, none_stored_above}
use Rattle.radix_trie.proofs.trie.Trie.stored_above.Goals as goal

pub returns-in_default : goal.returns-in_default
returns-in_default g c = none_stored_above g.K.TrieKey.encoding c.args.self.now c.root.result.now c.args.list c.root.ensures c.in_default.ensures

pub returns : goal.returns
returns g c =
    rw c.truncate.ensures (longest_stored g.K.TrieKey.encoding c.args.self.now c.root.result.now c.args.list c.root.ensures (tree_of c.in-Some.found.0.now) c.in-Some.found.1 c.in-Some.ensures)
