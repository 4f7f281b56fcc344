use Rattle.std.proofs.Common.{◌∙◌}
use Rattle.radix_nodes.specs.Nodes.{tree_of}
use Rattle.radix_trie.proofs.WalkLemmas.Prefixes.{pairs_above-root}
use Rattle.radix_trie.proofs.trie.Trie.common_prefixes.Goals as goal

pub returns-clause-walk : goal.returns-clause-walk
returns-clause-walk g c =
    rw (← c.in_ok-list.ensures.ok) (c.new.ensures ∙ pairs_above-root g.K.TrieKey.encoding c.args.self.now (tree_of c.root.result.now) c.root.ensures c.in_ok-list.list)
