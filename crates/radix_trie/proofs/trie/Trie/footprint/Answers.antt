use Rattle.radix_trie.proofs.RootLemmas.Shown.{kept_nodes_are_few, kept_points, kept_some_prefixes}
use Rattle.radix_trie.proofs.trie.Trie.footprint.Goals as goal

pub returns-clause-nodes : goal.returns-clause-nodes
returns-clause-nodes g c = rw (← c.self.view_is) (kept_points g.K.TrieKey.encoding _ _ _ _ c.self.invariant)

pub returns-clause-nibbles : goal.returns-clause-nibbles
returns-clause-nibbles g c = rw (← c.self.view_is) (kept_some_prefixes g.K.TrieKey.encoding _ _ _ _ c.self.invariant)

pub returns-clause-few : goal.returns-clause-few
returns-clause-few g c = rw (← c.self.view_is) (kept_nodes_are_few g.K.TrieKey.encoding _ _ _ _ c.self.invariant)
