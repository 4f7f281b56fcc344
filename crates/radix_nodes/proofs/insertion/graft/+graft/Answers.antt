use Rattle.std.proofs.Common.{◌≡◌, ◌+◌, ◌<◌, ◌∙◌, ◌++◌, refl, sym, ap, subst, length, drop, arith, Ok, Err}
use Rattle.nibble_map.specs.Trees.{first}
use Rattle.masked_tree.specs.Mask.{IsPlaceOf}
use Rattle.masked_tree.specs.Tree.{firsts, IsTreePlaced}
use Rattle.radix_nodes.specs.declared.trie_node.TrieNode.{out-TrieNode}
use Rattle.radix_nodes.specs.Nodes.{tree_of, fragment_of}
use Rattle.radix_nodes.specs.Grafts.{GraftOutcome}
use Rattle.radix_nodes.proofs.EditLemmas.Insertion.{boxed_child_is_placed, first-fragment_at_place, place_is_within, place_by_mask}
use Rattle.radix_nodes.proofs.SearchLemmas.Compared.{met_down}
use Rattle.radix_nodes.proofs.SearchLemmas.Nearest.{nearest_none}
use Rattle.radix_nodes.proofs.EditLemmas.Grafts.{met_by_place, meets_some, told_outcome, occupied_here, occupied_child, kept, split_through_child, graft_through_child}
use Rattle.radix_nodes.proofs.insertion.graft.+graft.Goals as goal

pub returns-then-depth-len : goal.returns-then-depth-len
returns-then-depth-len g t c = (refl, refl, occupied_here c.args.node.now c.args.list.now c.args.depth (c.if-depth-len.true ∙ c.len.ensures))

pub index_mut-child-requires : goal.index_mut-child-requires
index_mut-child-requires g t c =
    let n = c.args.node.now in
    let w = place_is_within n c.in-Ok.i c.get.result c.requires.placed (place_by_mask n c.get.result (Ok c.in-Ok.i) c.requires.placed c.in-Ok.ensures) in
    let o = (out-TrieNode g.row.K.Denot g.row.V.Denot n).children.ok.0 in
    omega (arith, w, o)

pub agreed-agreement-requires-clause-start : goal.agreed-agreement-requires-clause-start
agreed-agreement-requires-clause-start g t c =
    let n = c.args.node.now in
    let b = c.index_mut-child.result.now in
    let at = place_by_mask n c.get.result (Ok c.in-Ok.i) c.requires.placed c.in-Ok.ensures in
    let lt = place_is_within n c.in-Ok.i c.get.result c.requires.placed at in
    ap (λ m. first (fragment_of m)) c.deref.ensures
    ∙ first-fragment_at_place n c.in-Ok.i b c.requires.placed c.get.result lt (sym c.index_mut-child.ensures.value) at
    ∙ c.get.ensures.value

pub graft-requires : goal.graft-requires
graft-requires g t c =
    let n = c.args.node.now in
    let key = c.args.list.now in
    let depth = c.args.depth in
    let b = c.index_mut-child.result.now in
    let is = sym c.index_mut-child.ensures.value in
    let a = c.agreed-agreement.result in
    let lt : depth < length key = omega (arith, c.requires.depth, c.if-depth-len.false, c.len.ensures) in
    let met = met_by_place n key depth c.in-Ok.i c.get.result c.requires.placed b c.deref.result.now a c.get.ensures.value c.in-Ok.ensures is c.deref.ensures c.agreed-agreement.ensures.agrees c.agreed-agreement.ensures.fits in
    let len : c.len-in-Ok.result ≡ length (fragment_of b.value) = c.len-in-Ok.ensures ∙ ap (λ m. length (fragment_of m)) c.deref-in-Ok.ensures in
    let step = met_down n key depth c.requires.placed b.value c.in-Ok.i a lt met b is refl (c.if-agreement-len.true ∙ len) in
    let o = (out-TrieNode g.row.K.Denot g.row.V.Denot n).children.ok.0 in
    let child = boxed_child_is_placed n c.in-Ok.i b c.requires.placed (omega (arith, met.within, o)) is in
    let placed : IsTreePlaced (tree_of c.deref_mut.result.now) = subst (λ m. IsTreePlaced (tree_of m)) (sym c.deref_mut.ensures.value) child.1 in
    λ κs l. (omega (arith, c.decreases, step.further, step.inside), (l.0, (l.1, (step.inside, (placed, (c.requires.below, c.requires.full))))))

pub split_beside-requires-clause-some : goal.split_beside-requires-clause-some
split_beside-requires-clause-some g t c =
    let n = c.args.node.now in
    let key = c.args.list.now in
    let depth = c.args.depth in
    let b = c.index_mut-child.result.now in
    let is = sym c.index_mut-child.ensures.value in
    let a = c.agreed-agreement.result in
    let lt : depth < length key = omega (arith, c.requires.depth, c.if-depth-len.false, c.len.ensures) in
    let met = met_by_place n key depth c.in-Ok.i c.get.result c.requires.placed b c.deref.result.now a c.get.ensures.value c.in-Ok.ensures is c.deref.ensures c.agreed-agreement.ensures.agrees c.agreed-agreement.ensures.fits in
    meets_some n key depth c.requires.placed c.in-Ok.i a lt met b is

pub split_beside-requires-clause-placed : goal.split_beside-requires-clause-placed
split_beside-requires-clause-placed g t c =
    let n = c.args.node.now in
    let at = place_by_mask n c.get.result (Ok c.in-Ok.i) c.requires.placed c.in-Ok.ensures in
    let lt = place_is_within n c.in-Ok.i c.get.result c.requires.placed at in
    (boxed_child_is_placed n c.in-Ok.i c.index_mut-child.result.now c.requires.placed lt (sym c.index_mut-child.ensures.value)).1

pub add_branch-requires-clause-gap : goal.add_branch-requires-clause-gap
add_branch-requires-clause-gap g t c =
    let n = c.args.node.now in
    subst (λ y. IsPlaceOf y (firsts (tree_of n).children) (Err c.in-Err.i)) c.get.ensures.value (place_by_mask n c.get.result (Err c.in-Err.i) c.requires.placed c.in-Err.ensures)

pub returns-then-agreement-len : goal.returns-then-agreement-len
returns-then-agreement-len g t c =
    let n = c.args.node.now in
    let key = c.args.list.now in
    let depth = c.args.depth in
    let b = c.index_mut-child.result.now in
    let is = sym c.index_mut-child.ensures.value in
    let a = c.agreed-agreement.result in
    let lt : depth < length key = omega (arith, c.requires.depth, c.if-depth-len.false, c.len.ensures) in
    let met = met_by_place n key depth c.in-Ok.i c.get.result c.requires.placed b c.deref.result.now a c.get.ensures.value c.in-Ok.ensures is c.deref.ensures c.agreed-agreement.ensures.agrees c.agreed-agreement.ensures.fits in
    let len : c.len-in-Ok.result ≡ length (fragment_of b.value) = c.len-in-Ok.ensures ∙ ap (λ m. length (fragment_of m)) c.deref-in-Ok.ensures in
    let below = subst (λ m. GraftOutcome c.graft.result c.args.branch (fragment_of m ++ drop (depth + a.same) key) (tree_of m) (tree_of c.graft.new.node)) c.deref_mut.ensures.value c.graft.ensures in
    graft_through_child n key depth c.requires.placed c.in-Ok.i a lt met b is _ c.graft.result c.args.branch (c.if-agreement-len.true ∙ len) below

pub returns-then-next-len : goal.returns-then-next-len
returns-then-next-len g t c =
    let n = c.args.node.now in
    let key = c.args.list.now in
    let depth = c.args.depth in
    let b = c.index_mut-child.result.now in
    let is = sym c.index_mut-child.ensures.value in
    let a = c.agreed-agreement.result in
    let lt : depth < length key = omega (arith, c.requires.depth, c.if-depth-len.false, c.len.ensures) in
    let met = met_by_place n key depth c.in-Ok.i c.get.result c.requires.placed b c.deref.result.now a c.get.ensures.value c.in-Ok.ensures is c.deref.ensures c.agreed-agreement.ensures.agrees c.agreed-agreement.ensures.fits in
    (refl, kept n key depth c.requires.placed c.in-Ok.i a lt met b is b refl, occupied_child n key depth c.requires.placed c.in-Ok.i a lt met b is (c.if-next-len.true ∙ c.len-else-agreement-len.ensures))

pub returns-else-next-len : goal.returns-else-next-len
returns-else-next-len g t c =
    let n = c.args.node.now in
    let key = c.args.list.now in
    let depth = c.args.depth in
    let b = c.index_mut-child.result.now in
    let is = sym c.index_mut-child.ensures.value in
    let a = c.agreed-agreement.result in
    let lt : depth < length key = omega (arith, c.requires.depth, c.if-depth-len.false, c.len.ensures) in
    let met = met_by_place n key depth c.in-Ok.i c.get.result c.requires.placed b c.deref.result.now a c.get.ensures.value c.in-Ok.ensures is c.deref.ensures c.agreed-agreement.ensures.agrees c.agreed-agreement.ensures.fits in
    let len : c.len-in-Ok.result ≡ length (fragment_of b.value) = c.len-in-Ok.ensures ∙ ap (λ m. length (fragment_of m)) c.deref-in-Ok.ensures in
    rw c.tell.ensures
    (split_through_child n key depth c.requires.placed c.in-Ok.i a lt met b is c.split_beside.new.slot c.split_beside.result c.args.branch
    (λ z. c.if-agreement-len.false (z ∙ sym len)) (λ z. c.if-next-len.false (z ∙ sym c.len-else-agreement-len.ensures)) c.split_beside.ensures)

pub returns-in-Err : goal.returns-in-Err
returns-in-Err g t c =
    let n = c.args.node.now in
    let key = c.args.list.now in
    let lt : c.args.depth < length key = omega (arith, c.requires.depth, c.if-depth-len.false, c.len.ensures) in
    let at = subst (λ y. IsPlaceOf y (firsts (tree_of n).children) (Err c.in-Err.i)) c.get.ensures.value (place_by_mask n c.get.result (Err c.in-Err.i) c.requires.placed c.in-Err.ensures) in
    rw c.tell-in-Err.ensures (told_outcome c.add_branch.result c.args.branch _ _ _ (nearest_none n key c.args.depth c.requires.placed lt at.0) c.add_branch.ensures)
