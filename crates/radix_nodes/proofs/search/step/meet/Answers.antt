use Rattle.std.proofs.Common.{◌∙◌, ap, sym, subst, arith, Ok, Err, drop}
use Rattle.masked_tree.specs.Mask.{bit_of}
use Rattle.masked_tree.specs.Tree.{firsts}
use Rattle.masked_tree.specs.Agreement.{Agrees}
use Rattle.nibble_map.specs.Trees.{first}
use Rattle.radix_nodes.specs.declared.trie_node.TrieNode.{out-TrieNode}
use Rattle.radix_nodes.specs.Nodes.{tree_of, fragment_of}
use Rattle.radix_nodes.proofs.EditLemmas.Insertion.{first-fragment_at_place, place_is_within, place_by_mask}
use Rattle.radix_nodes.proofs.EditLemmas.Steps.{child_is_met}
use Rattle.radix_nodes.proofs.search.step.meet.Goals as goal

pub index-requires : goal.index-requires
index-requires g c =
    let n = c.args.node.now in
    let w = place_is_within n c.in-Ok.i c.get.result c.requires.placed (place_by_mask n c.get.result (Ok c.in-Ok.i) c.requires.placed c.in-Ok.ensures) in
    omega (arith, w, (out-TrieNode g.row.K.Denot g.row.V.Denot n).children.ok.0)

pub agreed-agreement-requires-clause-start : goal.agreed-agreement-requires-clause-start
agreed-agreement-requires-clause-start g c =
    let n = c.args.node.now in
    let at = place_by_mask n c.get.result (Ok c.in-Ok.i) c.requires.placed c.in-Ok.ensures in
    let b = c.index.result.now in
    ap (λ m. first (fragment_of m)) c.deref.ensures
    ∙ first-fragment_at_place n c.in-Ok.i b c.requires.placed c.get.result (place_is_within n c.in-Ok.i c.get.result c.requires.placed at) (sym c.index.ensures) at
    ∙ c.get.ensures.value

pub returns-in-Ok : goal.returns-in-Ok
returns-in-Ok g c =
    let a = c.agreed-agreement.result in
    child_is_met c.args.node.now c.args.list.now c.args.depth c.in-Ok.i c.requires.placed c.get.result c.index.result.now a c.get.ensures.value
    (place_by_mask c.args.node.now c.get.result (Ok c.in-Ok.i) c.requires.placed c.in-Ok.ensures) (sym c.index.ensures) c.agreed-agreement.ensures.fits
    (subst (λ m. Agrees (fragment_of m) (drop c.args.depth c.args.list.now) a.same a.compared) c.deref.ensures c.agreed-agreement.ensures.agrees)

pub returns-in-Err : goal.returns-in-Err
returns-in-Err g c =
    let n = c.args.node.now in
    ap (λ y. bit_of y (firsts (tree_of n).children)) (sym c.get.ensures.value) ∙ (place_by_mask n c.get.result (Err c.in-Err.field-0) c.requires.placed c.in-Err.ensures).0
