use Rattle.std.proofs.Common.{◌∙◌, sym}
use Rattle.radix_nodes.specs.declared.trie_node.TrieNode.{out-TrieNode}
use Rattle.radix_nodes.proofs.EditLemmas.Merging.{tree_of-absorbed}
use Rattle.radix_nodes.proofs.trie_node.links.absorb.Goals as goal

pub returns : goal.returns
returns g c =
    let parts = c.into_parts-pair.ensures in
    rw (parts.pair, parts.mask, parts.children)
    (tree_of-absorbed c.args.node.now c.into_inner.result c.remove-only.result c.args.fragment (sym (out-TrieNode g.row.K.Denot g.row.V.Denot c.args.node.now).children.ok.0 ∙ c.requires.one) (sym c.remove-only.ensures.value) c.into_inner.ensures c.requires.joined)
