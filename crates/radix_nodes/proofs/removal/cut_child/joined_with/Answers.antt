use Rattle.std.proofs.Common.{◌++◌, ◌∙◌, sym, ap, arith, length}
use Rattle.std.proofs.lemmas.List.{length-append}
use Rattle.radix_nodes.specs.declared.trie_node.TrieNode.{out-TrieNode}
use Rattle.radix_nodes.specs.Nodes.{fragment_of}
use Rattle.radix_nodes.proofs.NodeLemmas.Nodes.{fragment-tree_of}
use Rattle.radix_nodes.proofs.EditLemmas.Merging.{if_ok_implies, refused_is_long, child_is_in_box}
use Rattle.radix_nodes.proofs.removal.cut_child.joined_with.Goals as goal

pub returns-clause-made : goal.returns-clause-made
returns-clause-made g c =
    let n = c.args.node.now in
    let b = c.index.result.now in
    let o = (out-TrieNode g.row.K.Denot g.row.V.Denot n).children.ok.0 in
    if_ok_implies _ _ c.joined.result c.joined.ensures.made (λ f e u a.
    e ∙ ap (λ m. fragment_of n ++ fragment_of m) c.deref.ensures
    ∙ ap (λ z. fragment_of n ++ z) (sym (fragment-tree_of b.value) ∙ ap (λ t. t.fragment) (sym (child_is_in_box n c.args.i b u c.requires.placed (omega (arith, c.requires.within, o)) (sym c.index.ensures) a))))

pub returns-clause-long : goal.returns-clause-long
returns-clause-long g c =
    let n = c.args.node.now in
    let b = c.index.result.now in
    let o = (out-TrieNode g.row.K.Denot g.row.V.Denot n).children.ok.0 in
    refused_is_long c.joined.result (fragment_of n ++ fragment_of c.deref.result.now) c.joined.ensures.succeeds (λ l u a.
    let e = ap (λ m. length (fragment_of m)) c.deref.ensures in
    let f = ap length (sym (fragment-tree_of b.value) ∙ ap (λ t. t.fragment) (sym (child_is_in_box n c.args.i b u c.requires.placed (omega (arith, c.requires.within, o)) (sym c.index.ensures) a))) in
    let s = length-append (fragment_of n) (fragment_of c.deref.result.now) in
    omega (arith, l, s, e, f))
