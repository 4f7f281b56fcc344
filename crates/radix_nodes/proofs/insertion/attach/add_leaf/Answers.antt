use Rattle.std.proofs.Common.{sym, ap, refl, arith, ◌-◌}
use Rattle.radix_nodes.specs.declared.trie_node.TrieNode.{out-TrieNode, out-roll-TrieNode}
use Rattle.radix_nodes.specs.Nodes.{tree_of, fragment_of}
use Rattle.radix_nodes.proofs.NodeLemmas.Nodes.{tree_of-same_children, fragment-tree_of}
use Rattle.radix_nodes.proofs.NodeLemmas.Options.{match_implies}
use Rattle.radix_nodes.proofs.EditLemmas.Insertion.{leaf_step, gap_is_within, gap_free}
use Rattle.radix_nodes.proofs.EditLemmas.Settling.{settles_back}
use Rattle.radix_nodes.proofs.insertion.attach.add_leaf.Goals as goal

pub returns-in_err-reserve : goal.returns-in_err-reserve
returns-in_err-reserve g c =
    settles_back _ _ c.args.change.now _ c.from_residual.ensures.0 c.requires.given refl
    (λ x. (refl, tree_of-same_children c.args.node.now c.reserve.new.self c.in_err-reserve.ensures.items, gap_free c.args.node.now c.args.list.now c.args.depth c.args.i c.requires.placed c.requires.depth c.requires.gap))

pub returns-in_err-leaf : goal.returns-in_err-leaf
returns-in_err-leaf g c =
    settles_back _ _ c.args.change.now _ c.from_residual-in_err-leaf.ensures.0 c.requires.given c.in_err-leaf.ensures.back
    (λ x. (refl, tree_of-same_children c.args.node.now c.reserve.new.self c.in_ok-reserve.ensures.items, gap_free c.args.node.now c.args.list.now c.args.depth c.args.i c.requires.placed c.requires.depth c.requires.gap))

pub link-requires-clause-within : goal.link-requires-clause-within
link-requires-clause-within g c =
    rw (out-roll-TrieNode g.row.K.Denot g.row.V.Denot) (
    let w = gap_is_within c.args.node.now c.args.i _ c.requires.gap in
    let e = c.in_ok-reserve.ensures.len in
    let o = (out-TrieNode g.row.K.Denot g.row.V.Denot c.args.node.now).children.ok.0 in
    omega (arith, w, e, o))

pub returns : goal.returns
returns g c =
    let n = c.args.node.now in
    match_implies c.args.change.now.was (λ z. z)
    (λ x made. leaf_step (tree_of n) (tree_of c.link.new.node) _ _ (fragment_of n) c.args.list.now x _ c.args.depth c.args.i c.get.result _ (sym (fragment-tree_of n)) c.requires.depth c.get.ensures.value c.get.ensures.nibble
    c.requires.placed c.requires.gap made (tree_of-same_children n c.reserve.new.self c.in_ok-reserve.ensures.items) c.link.ensures c.in_ok-leaf.ensures.taken (ap (λ l. l - c.args.depth) c.len.ensures))
    c.in_ok-leaf.ensures.made
