use Rattle.std.proofs.Common.{◌≡◌, ◌≢◌, ◌<◌, ◌++◌, sym, subst, arith, length, vec_len, [], inr, Ok}
use Rattle.masked_tree.specs.Tree.{IsTreePlaced, IsFullBelow}
use Rattle.radix_nodes.specs.Ends.{PopOutcome}
use Rattle.radix_nodes.specs.Nodes.{tree_of, fragment_of, out_of, returned, RootOutcome}
use Rattle.radix_nodes.proofs.NodeLemmas.Nodes.{fragment-tree_of}
use Rattle.radix_nodes.proofs.EditLemmas.Insertion.{boxed_child_is_placed, box_is_child}
use Rattle.radix_nodes.proofs.EditLemmas.Removal.{leaf_in_box}
use Rattle.radix_nodes.proofs.EditLemmas.Ends.{boxed_child_is_full, leaf_has_end, root_ends, root_pop_through_child}
use Rattle.radix_nodes.proofs.removal.pop.pop_root.Goals as goal

pub remove_root_leaf-requires-clause-leaf : goal.remove_root_leaf-requires-clause-leaf
remove_root_leaf-requires-clause-leaf g c u a =
    let n = c.args.node.now in
    let b = c.index.result.now in
    let bare = subst (λ m. vec_len (out_of m).children ≡ 0) c.deref.ensures c.if-is_end.ensures in
    leaf_in_box n c.in-Some.i b u c.requires.placed (omega (arith, c.in-Some.ensures.0, (out_of n).children.ok.0)) (sym c.index.ensures) (omega (arith, bare, (out_of b.value).children.ok.0)) a

pub pop_below-told-requires-clause-placed : goal.pop_below-told-requires-clause-placed
pop_below-told-requires-clause-placed g c =
    let n = c.args.node.now in
    let i = c.in-Some.i in
    let b = c.index_mut.result.now in
    let lt : i < length (out_of n).children.items = omega (arith, c.in-Some.ensures.0, (out_of n).children.ok.0) in
    let is = sym c.index_mut.ensures.value in
    subst (λ m. IsTreePlaced (tree_of m)) (sym c.deref_mut.ensures.value) (boxed_child_is_placed n i b c.requires.placed lt is).1

pub pop_below-told-requires-clause-full : goal.pop_below-told-requires-clause-full
pop_below-told-requires-clause-full g c =
    let n = c.args.node.now in
    let i = c.in-Some.i in
    let b = c.index_mut.result.now in
    let lt : i < length (out_of n).children.items = omega (arith, c.in-Some.ensures.0, (out_of n).children.ok.0) in
    let is = sym c.index_mut.ensures.value in
    subst (λ m. IsFullBelow (tree_of m)) (sym c.deref_mut.ensures.value) (boxed_child_is_full n i b c.requires.placed lt is c.requires.full)

pub pop_below-told-requires-clause-some : goal.pop_below-told-requires-clause-some
pop_below-told-requires-clause-some g c =
    let n = c.args.node.now in
    let i = c.in-Some.i in
    let b = c.index_mut.result.now in
    let lt : i < length (out_of n).children.items = omega (arith, c.in-Some.ensures.0, (out_of n).children.ok.0) in
    let is = sym c.index_mut.ensures.value in
    subst (λ m. fragment_of m ≢ []) (sym c.deref_mut.ensures.value) (boxed_child_is_placed n i b c.requires.placed lt is).0

pub returns-then-is_end : goal.returns-then-is_end
returns-then-is_end g c =
    let n = c.args.node.now in
    let i = c.in-Some.i in
    let b = c.index.result.now in
    let u = tree_of b.value in
    let lt : i < length (out_of n).children.items = omega (arith, c.in-Some.ensures.0, (out_of n).children.ok.0) in
    let is = sym c.index.ensures in
    let at = box_is_child n i b c.requires.placed lt is in
    let bare = subst (λ m. vec_len (out_of m).children ≡ 0) c.deref.ensures c.if-is_end.ensures in
    let ends = leaf_in_box n i b u c.requires.placed lt is (omega (arith, bare, (out_of b.value).children.ok.0)) at in
    let r = Ok c.remove_root_leaf.result in
    let new = tree_of c.remove_root_leaf.new.node in
    let cut = subst (λ f. RootOutcome r (f ++ u.fragment) (tree_of n) new) (sym (fragment-tree_of n)) (c.remove_root_leaf.ensures u at) in
    inr (leaf_has_end c.args.end (tree_of n) (λ p. RootOutcome r p (tree_of n) new) i u c.requires.full at ends c.in-Some.ensures.1 cut)

pub returns-else-is_end : goal.returns-else-is_end
returns-else-is_end g c =
    let n = c.args.node.now in
    let i = c.in-Some.i in
    let b = c.index_mut.result.now in
    let lt : i < length (out_of n).children.items = omega (arith, c.in-Some.ensures.0, (out_of n).children.ok.0) in
    let r = returned c.pop_below-told.result c.pop_below-told.new.removed in
    let below = subst (λ m. PopOutcome c.args.end r (tree_of m) (tree_of c.pop_below-told.new.node)) c.deref_mut.ensures.value c.pop_below-told.ensures in
    rw c.result_of.ensures (root_pop_through_child c.args.end n i b _ r c.requires.placed lt (sym c.index_mut.ensures.value) c.in-Some.ensures.1 below)

pub returns-in-None : goal.returns-in-None
returns-in-None g c =
    let n = c.args.node.now in
    let new = tree_of c.remove_own.new.node in
    root_ends c.args.end (tree_of n) new c.remove_own.result c.in-None.ensures (subst (λ f. RootOutcome (Ok c.remove_own.result) f (tree_of n) new) (sym (fragment-tree_of n)) c.remove_own.ensures)
