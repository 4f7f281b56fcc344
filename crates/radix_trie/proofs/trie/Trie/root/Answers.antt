use Rattle.radix_trie.proofs.RootLemmas.Shown.{kept_root}
use Rattle.radix_trie.proofs.trie.Trie.root.Goals as goal

pub returns : goal.returns
returns g c = rw (← c.self.view_is) (kept_root g.K.TrieKey.encoding _ _ _ _ c.self.invariant)
