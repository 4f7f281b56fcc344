use Rattle.std.proofs.Common.{sym, ◌∙◌}
use Rattle.radix_trie.proofs.ChangeLemmas.Changes.{node_at_root, no_node_at_root}
use Rattle.radix_trie.proofs.RootLemmas.Held.{pair_of-node, get-no_node}
use Rattle.radix_trie.proofs.trie.Trie.pair_at.Goals as goal

pub returns-in-Some : goal.returns-in-Some
returns-in-Some g c =
    let here = node_at_root c.root.result.now _ _ c.root.ensures.top c.in-Some.ensures in
    c.pair.ensures ∙ pair_of-node g.K.TrieKey.encoding _ _ c.root.ensures _ _ here

pub returns-in-None : goal.returns-in-None
returns-in-None g c =
    sym (get-no_node g.K.TrieKey.encoding _ _ c.root.ensures _ (no_node_at_root c.root.result.now _ c.root.ensures.top c.in-None.ensures))
