use Rattle.radix_trie.proofs.view.trie_common.AnyTrieCommon.is_leaf.Goals as goal

pub returns : goal.returns
returns g c = c.is_leaf.ensures _ _ c.locus.ensures
