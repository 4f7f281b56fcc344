use Rattle.std.proofs.Common.{sym, ◌∙◌}
use Rattle.radix_nodes.proofs.NodeLemmas.Nodes.{fragment-tree_of}
use Rattle.radix_trie.proofs.RootLemmas.Shown.{kept_root}
use Rattle.radix_trie.proofs.trie.Trie.top.Goals as goal

pub returns : goal.returns
returns g c = sym (fragment-tree_of c.self.inside.root) ∙ (kept_root g.K.TrieKey.encoding _ _ _ _ c.self.invariant).top
