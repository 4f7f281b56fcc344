use Rattle.std.proofs.Common.{◌∙◌, ◌≡◌, ◌<◌, ◌++◌, length, None, IsSome, sym, ap, subst, refl, arith}
use Rattle.masked_tree.proofs.TreeLemmas.Children.{child_at_is_unique}
use Rattle.radix_nodes.specs.declared.trie_node.TrieNode.{out-TrieNode}
use Rattle.radix_nodes.specs.Nodes.{tree_of, fragment_of, unboxed, HasLongJoin}
use Rattle.radix_nodes.proofs.NodeLemmas.Nodes.{fragment-tree_of}
use Rattle.radix_nodes.proofs.EditLemmas.Insertion.{boxed_child_is_placed, free_through_child, held_through_child}
use Rattle.radix_nodes.proofs.EditLemmas.Steps.{free_here, held_here}
use Rattle.radix_nodes.proofs.EditLemmas.Removal.{append-child_fragment, leaf_has_pair, leaf_cut, long_at_leaf}
use Rattle.radix_nodes.proofs.removal.remove.remove_leaf.Goals as goal

pub returns-in-Ok : goal.returns-in-Ok
returns-in-Ok g c u a =
    let out = out-TrieNode g.row.K.Denot g.row.V.Denot in
    let n = c.args.node.now in
    let o = (out n).children.ok.0 in
    let leaf = c.in-Ok.leaf.top.value in
    let new = c.cut_child.new.node in
    let same = child_at_is_unique c.args.i (tree_of n).children (tree_of leaf) u c.in-Ok.ensures.child a in
    let has = leaf_has_pair n leaf c.args.i c.index.result.now c.requires.placed (omega (arith, c.requires.within, o)) (sym c.index.ensures) c.in-Ok.ensures.child
    (subst (λ m. IsSome (unboxed (out m).pair)) c.deref.ensures c.if-not-has_pair.ensures) in
    let cut = leaf_cut (tree_of n) (tree_of new) (tree_of n).fragment leaf c.in-Ok.leaf.nodes (ap (λ t. t.children) (sym same) ∙ c.requires.leaf u a) has c.removed_leaf.result c.removed_leaf.ensures c.in-Ok.ensures.cut in
    rw (← fragment-tree_of n, same) cut

pub returns-then-not-has_pair : goal.returns-then-not-has_pair
returns-then-not-has_pair g c u a =
    let out = out-TrieNode g.row.K.Denot g.row.V.Denot in
    let n = c.args.node.now in
    let b = c.index.result.now in
    let lt : c.args.i < length (out n).children.items = omega (arith, c.requires.within, (out n).children.ok.0) in
    let is = sym c.index.ensures in
    let child = boxed_child_is_placed n c.args.i b c.requires.placed lt is in
    let path = append-child_fragment n c.args.i b u c.requires.placed lt is a in (
      refl,
      free_through_child n c.args.i b c.requires.placed (fragment_of b.value) _ lt is path child.0 refl
          (free_here b.value child.1 (subst (λ m. unboxed (out m).pair ≡ None) c.deref.ensures c.if-not-has_pair.ensures)),
    )

pub returns-in-Err : goal.returns-in-Err
returns-in-Err g c u a =
    let out = out-TrieNode g.row.K.Denot g.row.V.Denot in
    let n = c.args.node.now in
    let b = c.index.result.now in
    let o = (out n).children.ok.0 in
    let lt : c.args.i < length (out n).children.items = omega (arith, c.requires.within, o) in
    let is = sym c.index.ensures in
    let path = append-child_fragment n c.args.i b u c.requires.placed lt is a in (
      c.in-Err.ensures.unchanged,
      held_through_child n c.args.i b c.requires.placed (fragment_of b.value) _ lt is path (held_here b.value (subst (λ m. IsSome (unboxed (out m).pair)) c.deref.ensures c.if-not-has_pair.ensures)),
      subst (λ f. HasLongJoin (tree_of n) (f ++ u.fragment)) (fragment-tree_of n) (long_at_leaf (tree_of n) c.args.i u a (c.requires.leaf u a) c.in-Err.ensures.long),
    )
