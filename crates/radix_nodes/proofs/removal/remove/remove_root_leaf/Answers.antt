use Rattle.std.proofs.Common.{◌∙◌, ◌≡◌, ◌<◌, length, None, IsSome, sym, ap, subst, refl, arith}
use Rattle.masked_tree.proofs.TreeLemmas.Children.{child_at_is_unique}
use Rattle.radix_nodes.specs.declared.trie_node.TrieNode.{out-TrieNode}
use Rattle.radix_nodes.specs.Nodes.{tree_of, fragment_of, unboxed}
use Rattle.radix_nodes.proofs.NodeLemmas.Nodes.{fragment-tree_of}
use Rattle.radix_nodes.proofs.EditLemmas.Insertion.{boxed_child_is_placed, free_through_child}
use Rattle.radix_nodes.proofs.EditLemmas.Steps.{free_here}
use Rattle.radix_nodes.proofs.EditLemmas.Removal.{append-child_fragment, leaf_has_pair, leaf_root}
use Rattle.radix_nodes.proofs.removal.remove.remove_root_leaf.Goals as goal

pub returns : goal.returns
returns g c u a =
    let out = out-TrieNode g.row.K.Denot g.row.V.Denot in
    let n = c.args.node.now in
    let o = (out n).children.ok.0 in
    let leaf = c.cut_root_child.result.top.value in
    let at = c.cut_root_child.ensures.child in
    let same = child_at_is_unique c.args.i (tree_of n).children (tree_of leaf) u at a in
    let has = leaf_has_pair n leaf c.args.i c.index.result.now c.requires.placed (omega (arith, c.requires.within, o)) (sym c.index.ensures) at
    (subst (λ m. IsSome (unboxed (out m).pair)) c.deref.ensures c.if-not-has_pair.ensures) in
    let cut = leaf_root (tree_of n) (tree_of c.cut_root_child.new.root) (tree_of n).fragment leaf c.cut_root_child.result.nodes (ap (λ t. t.children) (sym same) ∙ c.requires.leaf u a) has c.removed_leaf.result c.removed_leaf.ensures c.cut_root_child.ensures.cut in
    rw (← fragment-tree_of n, same) cut

pub returns-then-not-has_pair : goal.returns-then-not-has_pair
returns-then-not-has_pair g c u a =
    let out = out-TrieNode g.row.K.Denot g.row.V.Denot in
    let n = c.args.node.now in
    let b = c.index.result.now in
    let lt : c.args.i < length (out n).children.items = omega (arith, c.requires.within, (out n).children.ok.0) in
    let is = sym c.index.ensures in
    let child = boxed_child_is_placed n c.args.i b c.requires.placed lt is in
    let path = append-child_fragment n c.args.i b u c.requires.placed lt is a in (
      refl,
      free_through_child n c.args.i b c.requires.placed (fragment_of b.value) _ lt is path child.0 refl
          (free_here b.value child.1 (subst (λ m. unboxed (out m).pair ≡ None) c.deref.ensures c.if-not-has_pair.ensures)),
    )
