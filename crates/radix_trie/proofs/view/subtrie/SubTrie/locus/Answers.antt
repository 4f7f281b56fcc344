use Rattle.radix_trie.proofs.view.subtrie.SubTrie.locus.Goals as goal

pub returns : goal.returns
returns g c = rw (← c.self.view_is) c.at.ensures
