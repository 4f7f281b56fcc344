use Rattle.std.proofs.Common.{◌≡◌, ◌≢◌, ◌+◌, ◌<◌, ◌++◌, ◌∙◌, [], refl, sym, ap, subst, arith, length, drop}
use Rattle.radix_nodes.specs.declared.trie_node.TrieNode.{out-TrieNode}
use Rattle.masked_tree.specs.Tree.{IsTreePlaced}
use Rattle.masked_tree.proofs.TreeLemmas.Children.{child_at_is_unique}
use Rattle.radix_nodes.specs.Nodes.{tree_of, fragment_of, returned}
use Rattle.radix_nodes.proofs.EditLemmas.Merging.{item_is_unique}
use Rattle.radix_nodes.proofs.EditLemmas.Insertion.{boxed_child_is_placed, box_is_child}
use Rattle.radix_nodes.proofs.SearchLemmas.Nearest.{nearest_none, nearest_parted}
use Rattle.radix_nodes.specs.Prunes.{IsBranch, BranchOutcome, branch_of}
use Rattle.radix_nodes.proofs.EditLemmas.Branches.{item_at, branch_child, key_goes_on, root_cut_through_child}
use Rattle.radix_nodes.proofs.removal.cut_branch.cut_branch.Goals as goal

pub cut_below-told-requires-clause-depth : goal.cut_below-told-requires-clause-depth
cut_below-told-requires-clause-depth g c =
    let on = key_goes_on c.args.root.now c.deref.result.now c.args.list.now 0 c.requires.placed c.in-Some.i c.in-Some.agreement c.requires.some c.in-Some.ensures c.index.result.now (sym c.index.ensures) c.deref.ensures
    (c.if-agreement-len-2.true ∙ c.len-else-agreement-len.ensures) (λ z. c.if-agreement-len.false (omega (arith, z, c.len.ensures))) in
    omega (arith, on.1)

pub cut_below-told-requires-clause-placed : goal.cut_below-told-requires-clause-placed
cut_below-told-requires-clause-placed g c =
    let n = c.args.root.now in
    let o = (out-TrieNode g.row.K.Denot g.row.V.Denot n).children.ok.0 in
    subst (λ m. IsTreePlaced (tree_of m)) (sym c.deref_mut.ensures.value)
    (boxed_child_is_placed n c.in-Some.i c.index_mut.result.now c.requires.placed (omega (arith, c.in-Some.ensures.within, o)) (sym c.index_mut.ensures.value)).1

pub cut_below-told-requires-clause-some : goal.cut_below-told-requires-clause-some
cut_below-told-requires-clause-some g c =
    let n = c.args.root.now in
    let o = (out-TrieNode g.row.K.Denot g.row.V.Denot n).children.ok.0 in
    subst (λ m. fragment_of m ≢ []) (sym c.deref_mut.ensures.value)
    (boxed_child_is_placed n c.in-Some.i c.index_mut.result.now c.requires.placed (omega (arith, c.in-Some.ensures.within, o)) (sym c.index_mut.ensures.value)).0

pub returns-then-agreement-len : goal.returns-then-agreement-len
returns-then-agreement-len g c =
    let n = c.args.root.now in
    let o = (out-TrieNode g.row.K.Denot g.row.V.Denot n).children.ok.0 in
    let lt : c.in-Some.i < length (out-TrieNode g.row.K.Denot g.row.V.Denot n).children.items = omega (arith, c.in-Some.ensures.within, o) in
    let item = item_at (out-TrieNode g.row.K.Denot g.row.V.Denot n).children.items c.in-Some.i lt in
    let at = box_is_child n c.in-Some.i item.0 c.requires.placed lt item.1 in
    let branch = branch_child n item.0.value c.args.list.now 0 c.requires.placed c.in-Some.i c.in-Some.agreement c.requires.some c.in-Some.ensures item.0 item.1 refl (omega (arith, c.if-agreement-len.true, c.len.ensures)) in
    let same = child_at_is_unique c.in-Some.i (tree_of n).children (branch_of c.cut_root_child.result) (tree_of item.0.value) c.cut_root_child.ensures.child at in
    ((tree_of n).fragment, subst (λ u. IsBranch (tree_of n) u (fragment_of n ++ c.args.list.now) (tree_of n).fragment) same branch, c.cut_root_child.ensures.cut, omega (arith, c.cut_root_child.ensures.nodes))

pub returns-then-agreement-len-2 : goal.returns-then-agreement-len-2
returns-then-agreement-len-2 g c =
    let n = c.args.root.now in
    let b = c.index_mut.result.now in
    let key = c.args.list.now in
    let items = (out-TrieNode g.row.K.Denot g.row.V.Denot n).children.items in
    let o = (out-TrieNode g.row.K.Denot g.row.V.Denot n).children.ok.0 in
    let lt : c.in-Some.i < length items = omega (arith, c.in-Some.ensures.within, o) in
    let is = sym c.index_mut.ensures.value in
    let same : c.deref.result.now ≡ b.value = c.deref.ensures ∙ ap (λ k. k.value) (item_is_unique items c.in-Some.i c.index.result.now b lt (sym c.index.ensures) is) in
    let next : c.in-Some.agreement.same ≡ 0 + c.in-Some.agreement.same = omega arith in
    let below = subst (λ m. BranchOutcome (returned c.cut_below-told.result c.cut_below-told.new.branch) (fragment_of m ++ drop c.in-Some.agreement.same key) (tree_of m) (tree_of c.cut_below-told.new.node)) c.deref_mut.ensures.value c.cut_below-told.ensures in
    let below0 = subst (λ k. BranchOutcome (returned c.cut_below-told.result c.cut_below-told.new.branch) (fragment_of b.value ++ drop k key) (tree_of b.value) (tree_of c.cut_below-told.new.node)) next below in
    rw c.result_of.ensures
    (root_cut_through_child n b.value key 0 c.requires.placed c.in-Some.i c.in-Some.agreement c.requires.some c.in-Some.ensures b is refl _
    (c.if-agreement-len-2.true ∙ c.len-else-agreement-len.ensures ∙ ap (λ m. length (fragment_of m)) same) (returned c.cut_below-told.result c.cut_below-told.new.branch) below0)

pub returns-else-agreement-len-2 : goal.returns-else-agreement-len-2
returns-else-agreement-len-2 g c = (
  refl,
  nearest_parted c.args.root.now c.args.list.now 0 c.requires.placed c.deref.result.now c.in-Some.i c.in-Some.agreement c.requires.some c.in-Some.ensures c.index.result.now (sym c.index.ensures)
      c.deref.ensures (λ z. c.if-agreement-len-2.false (z ∙ sym c.len-else-agreement-len.ensures)) (λ z. c.if-agreement-len.false (omega (arith, z, c.len.ensures))),
)

pub returns-in-None : goal.returns-in-None
returns-in-None g c = (refl, nearest_none c.args.root.now c.args.list.now 0 c.requires.placed c.requires.some c.in-None.ensures)
