use Rattle.std.proofs.Common.{sym}
use Rattle.radix_trie.proofs.RootLemmas.Shown.{len-map_of_kept}
use Rattle.radix_trie.proofs.trie.Trie.len.Goals as goal

pub returns : goal.returns
returns g c = rw (← c.self.view_is) (sym (len-map_of_kept g.K.TrieKey.encoding _ _ _ _ c.self.invariant))
