use Rattle.radix_trie.proofs.trie.Trie.remove_prefix.Goals as goal

pub returns-clause-pairs : goal.returns-clause-pairs
returns-clause-pairs g c = rw (← c.in_ok-list.ensures.ok) c.prune_at.ensures.pairs

pub returns-clause-removed : goal.returns-clause-removed
returns-clause-removed g c = rw (← c.in_ok-list.ensures.ok) c.prune_at.ensures.removed
