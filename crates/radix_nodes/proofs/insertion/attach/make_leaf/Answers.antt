use Rattle.std.proofs.Common.{◌∙◌, ap, refl}
use Rattle.radix_nodes.specs.declared.trie_node.TrieNode.{out-TrieNode, out-roll-TrieNode}
use Rattle.radix_nodes.proofs.NodeLemmas.Nodes.{tree_of-leaf}
use Rattle.radix_nodes.proofs.insertion.attach.make_leaf.Goals as goal

pub returns-clause-made : goal.returns-clause-made
returns-clause-made g c =
    let made = ap (out-TrieNode g.row.K.Denot g.row.V.Denot) (c.deref_mut.ensures.value ∙ c.in_ok-leaf.ensures.ok) ∙ out-roll-TrieNode g.row.K.Denot g.row.V.Denot _ in
    rw c.in_ok-box_pair.ensures.made
    (tree_of-leaf c.deref_mut.result.now c.in_ok-box_pair.field-0 _ _
    (ap (λ o. o.fragment) made ∙ c.in_ok-tail.ensures.ok)
    (ap (λ o. o.mask) made)
    (ap (λ o. o.children.items) made ∙ c.new.ensures.items)
    refl)
