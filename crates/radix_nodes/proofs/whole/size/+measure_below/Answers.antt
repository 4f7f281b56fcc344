use Rattle.std.proofs.Common.{◌+◌, ◌<◌, ◌^◌, ◌∙◌, [], get_or, ap, sym, subst, length, arith}
use Rattle.masked_tree.specs.Tree.{entries_at, nodes_in}
use Rattle.radix_nodes.specs.declared.trie_node.TrieNode.{out-TrieNode}
use Rattle.radix_nodes.specs.Nodes.{tree_of}
use Rattle.radix_nodes.specs.Prunes.{CanCount}
use Rattle.radix_nodes.proofs.NodeLemmas.Sizes.{child_is_smaller, pairs_next, nodes_next, nibbles_next}
use Rattle.radix_nodes.proofs.whole.size.+measure_below.Goals as goal

pub measure_below-requires : goal.measure_below-requires
measure_below-requires g t c κs within =
    let n = c.args.node.now in
    let items = c.deref-child-items.ensures.value in
    let i = c.loop-child.child-index in
    let b = c.child-item.result in
    let lt : i < length (out-TrieNode g.row.K.Denot g.row.V.Denot n).children.items = subst (λ xs. i < length xs) items c.loop-child-test.true in
    let fewer = child_is_smaller n i b lt (ap (λ xs. get_or xs i b) (sym items) ∙ sym c.child-item.is) in
    let nodes : nodes_in (tree_of c.deref.result.now).children < nodes_in (tree_of n).children =
    subst (λ k. nodes_in (tree_of k).children < nodes_in (tree_of n).children) (sym c.deref.ensures) fewer.0 in
    let paired = pairs_next _ i b c.loop-child-test.true c.child-item.is in
    let noded = nodes_next _ i b c.loop-child-test.true c.child-item.is in
    let nibbled = nibbles_next _ i b c.loop-child-test.true c.child-item.is in
    let small : CanCount c.loop-child.held (tree_of b.value) = record {
      nodes = omega (arith, noded, c.loop-child.invariant.noded, c.requires.small.nodes);
      nibbles = omega (arith, nibbled, c.loop-child.invariant.nibbled, c.requires.small.nibbles);
    } in
    let few : c.loop-child.pairs + length (entries_at [] (tree_of b.value)) < 2 ^ 64 = omega (arith, paired, c.loop-child.invariant.paired, c.requires.few) in (
      omega (arith, c.decreases, nodes),
      (
        within.0,
        (
          within.1,
          (
            subst (λ k. c.loop-child.pairs + length (entries_at [] (tree_of k)) < 2 ^ 64) (sym c.deref.ensures) few,
            subst (λ k. CanCount c.loop-child.held (tree_of k)) (sym c.deref.ensures) small,
          ),
        ),
      ),
    )
