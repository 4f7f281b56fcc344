use Rattle.radix_trie.proofs.PathLemmas.Above.{found_above}
use Rattle.radix_trie.proofs.trie.Trie.pair_above.Goals as goal

pub returns : goal.returns
returns g c = found_above g.K.TrieKey.encoding _ _ _ c.root.ensures c.deepest_pair.result _ c.deepest_pair.ensures c.pair_in.ensures
