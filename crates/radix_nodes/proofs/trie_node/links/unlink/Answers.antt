use Rattle.std.proofs.Common.{◌<◌, ◌∙◌, sym, ap, subst, arith, length}
use Rattle.nibble_map.specs.Trees.{first}
use Rattle.radix_nodes.specs.declared.trie_node.TrieNode.{out-TrieNode}
use Rattle.radix_nodes.specs.Nodes.{fragment_of}
use Rattle.radix_nodes.proofs.NodeLemmas.Nodes.{fragment-tree_of}
use Rattle.radix_nodes.proofs.EditLemmas.Insertion.{boxed_child_is_placed, box_is_child}
use Rattle.radix_nodes.proofs.EditLemmas.KeyParts.{length_some}
use Rattle.radix_nodes.proofs.EditLemmas.Merging.{tree_of-unlinked}
use Rattle.radix_nodes.proofs.trie_node.links.unlink.Goals as goal

pub get-requires : goal.get-requires
get-requires g c =
    let n = c.args.node.now in
    let b = c.remove-child.result in
    let o = (out-TrieNode g.row.K.Denot g.row.V.Denot n).children.ok.0 in
    let child = boxed_child_is_placed n c.args.i b c.requires.placed (omega (arith, c.requires.within, o)) (sym c.remove-child.ensures.value) in
    subst (λ m. 0 < length (fragment_of m)) (sym c.deref.ensures) (length_some (fragment_of b.value) child.0)

pub returns-clause-child : goal.returns-clause-child
returns-clause-child g c =
    let n = c.args.node.now in
    let o = (out-TrieNode g.row.K.Denot g.row.V.Denot n).children.ok.0 in
    box_is_child n c.args.i c.remove-child.result c.requires.placed (omega (arith, c.requires.within, o)) (sym c.remove-child.ensures.value)

pub returns-clause-tree : goal.returns-clause-tree
returns-clause-tree g c =
    tree_of-unlinked c.args.node.now c.remove-child.new.self _ c.args.i _ _ c.remove-child.ensures.items c.unmark-node.ensures
    (c.get.ensures.value ∙ ap (λ m. first (fragment_of m)) c.deref.ensures ∙ ap first (sym (fragment-tree_of c.remove-child.result.value)))

pub returns-clause-nibble : goal.returns-clause-nibble
returns-clause-nibble g c =
    subst (λ y. y < 16) (c.get.ensures.value ∙ ap (λ m. first (fragment_of m)) c.deref.ensures ∙ ap first (sym (fragment-tree_of c.remove-child.result.value))) c.get.ensures.nibble
