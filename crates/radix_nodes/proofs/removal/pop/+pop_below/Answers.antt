use Rattle.std.proofs.Common.{◌≡◌, ◌≢◌, ◌<◌, ◌++◌, ◌∙◌, ap, sym, subst, arith, length, vec_len, []}
use Rattle.masked_tree.specs.Tree.{IsTreePlaced, IsFullBelow, nodes_in}
use Rattle.radix_nodes.specs.Ends.{PopOutcome}
use Rattle.radix_nodes.specs.Nodes.{tree_of, fragment_of, out_of, returned, CutOutcome}
use Rattle.radix_nodes.proofs.NodeLemmas.Nodes.{fragment-tree_of}
use Rattle.radix_nodes.proofs.NodeLemmas.Sizes.{child_is_smaller}
use Rattle.radix_nodes.proofs.CopyLemmas.Copies.{length-no_children}
use Rattle.radix_nodes.proofs.EditLemmas.Insertion.{boxed_child_is_placed, box_is_child}
use Rattle.radix_nodes.proofs.EditLemmas.Merging.{item_is_unique}
use Rattle.radix_nodes.proofs.EditLemmas.Removal.{leaf_in_box}
use Rattle.radix_nodes.proofs.EditLemmas.Ends.{boxed_child_is_full, leaf_has_end, own_has_end, pop_through_child}
use Rattle.radix_nodes.proofs.removal.pop.+pop_below.Goals as goal

pub remove_leaf-requires-clause-leaf : goal.remove_leaf-requires-clause-leaf
remove_leaf-requires-clause-leaf g t c u a =
    let n = c.args.node.now in
    let b = c.index.result.now in
    let bare = subst (λ m. vec_len (out_of m).children ≡ 0) c.deref.ensures c.if-is_end.ensures in
    leaf_in_box n c.in-Some.i b u c.requires.placed (omega (arith, c.in-Some.ensures.0, (out_of n).children.ok.0)) (sym c.index.ensures) (omega (arith, bare, (out_of b.value).children.ok.0)) a

pub pop_below-requires : goal.pop_below-requires
pop_below-requires g t c κs l =
    let n = c.args.node.now in
    let i = c.in-Some.i in
    let b = c.index_mut.result.now in
    let same = sym c.deref_mut.ensures.value in
    let lt : i < length (out_of n).children.items = omega (arith, c.in-Some.ensures.0, (out_of n).children.ok.0) in
    let is = sym c.index_mut.ensures.value in
    let child = boxed_child_is_placed n i b c.requires.placed lt is in
    let less = subst (λ m. nodes_in (tree_of m).children < nodes_in (tree_of n).children) same (child_is_smaller n i b lt is).0 in
    let placed : IsTreePlaced (tree_of c.deref_mut.result.now) = subst (λ m. IsTreePlaced (tree_of m)) same child.1 in
    let full : IsFullBelow (tree_of c.deref_mut.result.now) = subst (λ m. IsFullBelow (tree_of m)) same (boxed_child_is_full n i b c.requires.placed lt is c.requires.full) in
    let some : fragment_of c.deref_mut.result.now ≢ [] = subst (λ m. fragment_of m ≢ []) same child.0 in
    let inner : 0 < vec_len (out_of c.deref_mut.result.now).children = subst (λ m. 0 < vec_len (out_of m).children)
    (c.deref.ensures ∙ ap (λ b. b.value) (item_is_unique (out_of n).children.items i c.index.result.now b lt (sym c.index.ensures) is) ∙ same) c.if-is_end.ensures in
    (omega (arith, c.decreases, less), (l.0, (l.1, (placed, (full, (some, inner))))))

pub returns-then-is_end : goal.returns-then-is_end
returns-then-is_end g t c =
    let n = c.args.node.now in
    let i = c.in-Some.i in
    let b = c.index.result.now in
    let u = tree_of b.value in
    let lt : i < length (out_of n).children.items = omega (arith, c.in-Some.ensures.0, (out_of n).children.ok.0) in
    let is = sym c.index.ensures in
    let at = box_is_child n i b c.requires.placed lt is in
    let bare = subst (λ m. vec_len (out_of m).children ≡ 0) c.deref.ensures c.if-is_end.ensures in
    let ends = leaf_in_box n i b u c.requires.placed lt is (omega (arith, bare, (out_of b.value).children.ok.0)) at in
    let new = tree_of c.remove_leaf.new.node in
    let cut = subst (λ f. CutOutcome c.remove_leaf.result (f ++ u.fragment) (tree_of n) new) (sym (fragment-tree_of n)) (c.remove_leaf.ensures u at) in
    rw c.write_result.ensures (leaf_has_end c.args.end (tree_of n) (λ p. CutOutcome c.remove_leaf.result p (tree_of n) new) i u c.requires.full at ends c.in-Some.ensures.1 cut)

pub returns-else-is_end : goal.returns-else-is_end
returns-else-is_end g t c =
    let n = c.args.node.now in
    let i = c.in-Some.i in
    let b = c.index_mut.result.now in
    let lt : i < length (out_of n).children.items = omega (arith, c.in-Some.ensures.0, (out_of n).children.ok.0) in
    let r = returned c.pop_below.result c.pop_below.new.removed in
    let below = subst (λ m. PopOutcome c.args.end r (tree_of m) (tree_of c.pop_below.new.node)) c.deref_mut.ensures.value c.pop_below.ensures in
    pop_through_child c.args.end n i b _ r c.requires.placed lt (sym c.index_mut.ensures.value) c.in-Some.ensures.1 below

pub returns-in-None : goal.returns-in-None
returns-in-None g t c =
    let n = c.args.node.now in
    let new = tree_of c.remove_here.new.node in
    let cut = subst (λ f. CutOutcome c.remove_here.result f (tree_of n) new) (sym (fragment-tree_of n)) c.remove_here.ensures in
    rw c.write_result-in-None.ensures
    (own_has_end c.args.end (tree_of n) (λ p. CutOutcome c.remove_here.result p (tree_of n) new) (λ e. (let none = length-no_children n e in omega (arith, none, (out_of n).children.ok.0, c.requires.inner))) c.in-None.ensures cut)
