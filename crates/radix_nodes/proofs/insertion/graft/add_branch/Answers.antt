use Rattle.std.proofs.Common.{refl, sym, ap, drop, arith, ◌-◌}
use Rattle.radix_nodes.specs.declared.trie_node.TrieNode.{out-TrieNode, out-roll-TrieNode}
use Rattle.radix_nodes.specs.Nodes.{tree_of, fragment_of}
use Rattle.radix_nodes.proofs.NodeLemmas.Nodes.{tree_of-same_children, fragment-tree_of}
use Rattle.radix_nodes.proofs.EditLemmas.Insertion.{branch_step, gap_is_within}
use Rattle.radix_nodes.proofs.EditLemmas.Grafts.{refitted_is_grafted}
use Rattle.radix_nodes.proofs.insertion.graft.add_branch.Goals as goal

pub returns-in_default : goal.returns-in_default
returns-in_default g c = (refl, tree_of-same_children c.args.node.now c.reserve.new.self c.in_default.ensures.items)

pub returns-in_default-joined_tail : goal.returns-in_default-joined_tail
returns-in_default-joined_tail g c = (refl, tree_of-same_children c.args.node.now c.reserve.new.self c.in-Ok.ensures.items)

pub link-requires-clause-within : goal.link-requires-clause-within
link-requires-clause-within g c =
    rw (out-roll-TrieNode g.row.K.Denot g.row.V.Denot) (
    let w = gap_is_within c.args.node.now c.args.i _ c.requires.gap in
    let e = c.in-Ok.ensures.len in
    let o = (out-TrieNode g.row.K.Denot g.row.V.Denot c.args.node.now).children.ok.0 in
    omega (arith, w, e, o))

pub returns : goal.returns
returns g c =
    let n = c.args.node.now in
    let b = c.args.branch.value in
    branch_step (tree_of b) c.args.list.now c.args.depth c.get.result c.requires.depth c.get.ensures.value c.get.ensures.nibble c.requires.below c.requires.full
    (tree_of n) (tree_of c.link.new.node) _ (tree_of c.refitted.result.value) (fragment_of n) c.args.i _ (sym (fragment-tree_of n)) c.requires.placed c.requires.gap
    (refitted_is_grafted b c.deref.result.now c.refitted.result.value c.in-Ok-joined_tail.fragment (drop c.args.depth c.args.list.now) c.deref.ensures c.in-Ok-joined_tail.ensures c.refitted.ensures)
    (tree_of-same_children n c.reserve.new.self c.in-Ok.ensures.items) c.link.ensures (ap (λ l. l - c.args.depth) c.len.ensures)
