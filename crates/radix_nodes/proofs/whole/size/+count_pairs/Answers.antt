use Rattle.std.proofs.Common.{◌<◌, ◌≤◌, ◌∙◌, [], get_or, ap, sym, subst, length, arith}
use Rattle.masked_tree.specs.Tree.{entries_at, nodes_in}
use Rattle.radix_nodes.specs.declared.trie_node.TrieNode.{out-TrieNode}
use Rattle.radix_nodes.specs.Nodes.{tree_of}
use Rattle.radix_nodes.proofs.NodeLemmas.Sizes.{child_is_smaller}
use Rattle.radix_nodes.proofs.whole.size.+count_pairs.Goals as goal

pub count_pairs-count-requires : goal.count_pairs-count-requires
count_pairs-count-requires g t c =
    let n = c.args.node.now in
    let m = c.deref.result.now in
    let items = c.deref-child-items.ensures.value in
    let i = c.loop-child.child-index in
    let b = c.child-item.result in
    let lt : i < length (out-TrieNode g.row.K.Denot g.row.V.Denot n).children.items = subst (λ xs. i < length xs) items c.loop-child-test.true in
    let fewer = child_is_smaller n i b lt (ap (λ xs. get_or xs i b) (sym items) ∙ sym c.child-item.is) in
    let nodes : nodes_in (tree_of m).children < nodes_in (tree_of n).children = subst (λ k. nodes_in (tree_of k).children < nodes_in (tree_of n).children) (sym c.deref.ensures) fewer.0 in
    let pairs : length (entries_at [] (tree_of m)) ≤ length (entries_at [] (tree_of n)) = subst (λ k. length (entries_at [] (tree_of k)) ≤ length (entries_at [] (tree_of n))) (sym c.deref.ensures) fewer.1 in
    λ κs l. (omega (arith, c.decreases, nodes), (l.0, (l.1, omega (arith, pairs, c.requires))))
