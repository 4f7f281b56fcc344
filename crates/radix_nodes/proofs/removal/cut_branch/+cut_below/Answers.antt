use Rattle.std.proofs.Common.{◌≡◌, ◌≢◌, ◌+◌, ◌<◌, ◌++◌, ◌∙◌, [], refl, sym, ap, subst, arith, length, drop}
use Rattle.masked_tree.specs.Tree.{IsTreePlaced}
use Rattle.masked_tree.proofs.TreeLemmas.Children.{child_at_is_unique}
use Rattle.radix_nodes.specs.declared.trie_node.TrieNode.{out-TrieNode}
use Rattle.radix_nodes.specs.Nodes.{tree_of, fragment_of, returned}
use Rattle.radix_nodes.proofs.EditLemmas.Merging.{item_is_unique}
use Rattle.radix_nodes.proofs.EditLemmas.Insertion.{boxed_child_is_placed, box_is_child}
use Rattle.radix_nodes.proofs.SearchLemmas.Nearest.{nearest_none, nearest_parted}
use Rattle.radix_nodes.specs.Prunes.{IsBranch, BranchOutcome, branch_of}
use Rattle.radix_nodes.proofs.EditLemmas.Branches.{item_at, branch_child, key_goes_on, cut_through_child}
use Rattle.radix_nodes.proofs.removal.cut_branch.+cut_below.Goals as goal

pub cut_below-requires : goal.cut_below-requires
cut_below-requires g t c =
    let n = c.args.node.now in
    let b = c.index_mut.result.now in
    let o = (out-TrieNode g.row.K.Denot g.row.V.Denot n).children.ok.0 in
    let lt : c.in-Some.i < length (out-TrieNode g.row.K.Denot g.row.V.Denot n).children.items = omega (arith, c.in-Some.ensures.within, o) in
    let is = sym c.index_mut.ensures.value in
    let child = boxed_child_is_placed n c.in-Some.i b c.requires.placed lt is in
    let placed : IsTreePlaced (tree_of c.deref_mut.result.now) = subst (λ m. IsTreePlaced (tree_of m)) (sym c.deref_mut.ensures.value) child.1 in
    let some : fragment_of c.deref_mut.result.now ≢ [] = subst (λ m. fragment_of m ≢ []) (sym c.deref_mut.ensures.value) child.0 in
    let on = key_goes_on n c.deref.result.now c.args.list.now c.args.depth c.requires.placed c.in-Some.i c.in-Some.agreement c.requires.depth c.in-Some.ensures c.index.result.now (sym c.index.ensures) c.deref.ensures
    (c.if-agreement-len.true ∙ c.len-else-next-len.ensures) (λ z. c.if-next-len.false (z ∙ sym c.len.ensures)) in
    λ κs l. (omega (arith, c.decreases, on.0, on.1), (l.0, (l.1, (on.1, (placed, (some, c.requires.none))))))

pub returns-in-Ok : goal.returns-in-Ok
returns-in-Ok g t c =
    let n = c.args.node.now in
    let o = (out-TrieNode g.row.K.Denot g.row.V.Denot n).children.ok.0 in
    let lt : c.in-Some.i < length (out-TrieNode g.row.K.Denot g.row.V.Denot n).children.items = omega (arith, c.in-Some.ensures.within, o) in
    let item = item_at (out-TrieNode g.row.K.Denot g.row.V.Denot n).children.items c.in-Some.i lt in
    let at = box_is_child n c.in-Some.i item.0 c.requires.placed lt item.1 in
    let branch = branch_child n item.0.value c.args.list.now c.args.depth c.requires.placed c.in-Some.i c.in-Some.agreement c.requires.depth c.in-Some.ensures item.0 item.1 refl (c.if-next-len.true ∙ c.len.ensures) in
    let same = child_at_is_unique c.in-Some.i (tree_of n).children (branch_of c.in-Ok.cut) (tree_of item.0.value) c.in-Ok.ensures.child at in
    ((tree_of n).fragment, subst (λ u. IsBranch (tree_of n) u (fragment_of n ++ drop c.args.depth c.args.list.now) (tree_of n).fragment) same branch, c.in-Ok.ensures.cut, c.in-Ok.ensures.few)

pub returns-in-Err : goal.returns-in-Err
returns-in-Err g t c =
    let n = c.args.node.now in
    let o = (out-TrieNode g.row.K.Denot g.row.V.Denot n).children.ok.0 in
    let lt : c.in-Some.i < length (out-TrieNode g.row.K.Denot g.row.V.Denot n).children.items = omega (arith, c.in-Some.ensures.within, o) in
    let item = item_at (out-TrieNode g.row.K.Denot g.row.V.Denot n).children.items c.in-Some.i lt in
    let branch = branch_child n item.0.value c.args.list.now c.args.depth c.requires.placed c.in-Some.i c.in-Some.agreement c.requires.depth c.in-Some.ensures item.0 item.1 refl (c.if-next-len.true ∙ c.len.ensures) in
    let rest = drop branch.covered (tree_of item.0.value).fragment in
    (c.in-Err.ensures.unchanged, (fragment_of n ++ drop c.args.depth c.args.list.now) ++ rest, (tree_of item.0.value, branch.nearest.node), (rest, refl))

pub returns-then-agreement-len : goal.returns-then-agreement-len
returns-then-agreement-len g t c =
    let n = c.args.node.now in
    let b = c.index_mut.result.now in
    let items = (out-TrieNode g.row.K.Denot g.row.V.Denot n).children.items in
    let o = (out-TrieNode g.row.K.Denot g.row.V.Denot n).children.ok.0 in
    let lt : c.in-Some.i < length items = omega (arith, c.in-Some.ensures.within, o) in
    let is = sym c.index_mut.ensures.value in
    let same : c.deref.result.now ≡ b.value = c.deref.ensures ∙ ap (λ k. k.value) (item_is_unique items c.in-Some.i c.index.result.now b lt (sym c.index.ensures) is) in
    let next = c.args.depth + c.in-Some.agreement.same in
    let below = subst (λ m. BranchOutcome (returned c.cut_below.result c.cut_below.new.branch) (fragment_of m ++ drop next c.args.list.now) (tree_of m) (tree_of c.cut_below.new.node)) c.deref_mut.ensures.value c.cut_below.ensures in
    cut_through_child n b.value c.args.list.now c.args.depth c.requires.placed c.in-Some.i c.in-Some.agreement c.requires.depth c.in-Some.ensures b is refl _
    (c.if-agreement-len.true ∙ c.len-else-next-len.ensures ∙ ap (λ m. length (fragment_of m)) same) (returned c.cut_below.result c.cut_below.new.branch) below

pub returns-else-agreement-len : goal.returns-else-agreement-len
returns-else-agreement-len g t c = rw c.requires.none (
  refl,
  nearest_parted c.args.node.now c.args.list.now c.args.depth c.requires.placed c.deref.result.now c.in-Some.i c.in-Some.agreement c.requires.depth c.in-Some.ensures c.index.result.now (sym c.index.ensures)
      c.deref.ensures (λ z. c.if-agreement-len.false (z ∙ sym c.len-else-next-len.ensures)) (λ z. c.if-next-len.false (z ∙ sym c.len.ensures)),
)

pub returns-in-None : goal.returns-in-None
returns-in-None g t c = rw c.requires.none (refl, nearest_none c.args.node.now c.args.list.now c.args.depth c.requires.placed c.requires.depth c.in-None.ensures)
