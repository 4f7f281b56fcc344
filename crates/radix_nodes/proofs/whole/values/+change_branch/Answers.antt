use Rattle.std.proofs.Common.{◌≡◌, ◌<◌, ◌∙◌, inr, refl, sym, ap, subst, arith, length}
use Rattle.std.specs.Box.{with_value}
use Rattle.masked_tree.specs.Tree.{IsTreePlaced}
use Rattle.radix_nodes.specs.declared.trie_node.TrieNode.{out-TrieNode}
use Rattle.radix_nodes.specs.Nodes.{tree_of, fragment_of}
use Rattle.radix_nodes.proofs.CopyLemmas.Branches.{takes_child, takes_below, changed_child, changed_below}
use Rattle.radix_nodes.proofs.EditLemmas.Branches.{key_goes_on}
use Rattle.radix_nodes.proofs.EditLemmas.Insertion.{boxed_child_is_placed}
use Rattle.radix_nodes.proofs.EditLemmas.Merging.{item_is_unique}
use Rattle.radix_nodes.proofs.SearchLemmas.Nearest.{nearest_none, nearest_parted}
use Rattle.radix_nodes.proofs.whole.values.+change_branch.Goals as goal

pub change_values-requires : goal.change_values-requires
change_values-requires g t c = record {
  callable = takes_child g.F.Fn c.args.f.now c.args.node.now c.deref_mut.result.now c.args.list.now c.args.depth c.requires.placed c.in-Some.i c.in-Some.agreement c.requires.depth c.in-Some.ensures
      c.index_mut.result.now (sym c.index_mut.ensures.value) c.deref_mut.ensures.value (c.if-next-len.true ∙ c.len.ensures) c.requires.callable;
}

pub change_branch-requires : goal.change_branch-requires
change_branch-requires g t c κs within =
    let n = c.args.node.now in
    let b = c.index_mut-then-agreement-len.result.now in
    let m = c.deref_mut-then-agreement-len.result.now in
    let em = c.deref_mut-then-agreement-len.ensures.value in
    let items = (out-TrieNode g.row.K.Denot g.row.V.Denot n).children.items in
    let lt : c.in-Some.i < length items = omega (arith, c.in-Some.ensures.within, (out-TrieNode g.row.K.Denot g.row.V.Denot n).children.ok.0) in
    let is = sym c.index_mut-then-agreement-len.ensures.value in
    let same : c.deref.result.now ≡ b.value = c.deref.ensures ∙ ap (λ k. k.value) (item_is_unique items c.in-Some.i c.index.result.now b lt (sym c.index.ensures) is) in
    let whole : c.in-Some.agreement.same ≡ length (fragment_of m) = c.if-agreement-len.true ∙ c.len-else-next-len.ensures ∙ ap (λ k. length (fragment_of k)) (same ∙ sym em) in
    let placed : IsTreePlaced (tree_of m) = subst (λ k. IsTreePlaced (tree_of k)) (sym em) (boxed_child_is_placed n c.in-Some.i b c.requires.placed lt is).1 in
    let on = key_goes_on n m c.args.list.now c.args.depth c.requires.placed c.in-Some.i c.in-Some.agreement c.requires.depth c.in-Some.ensures b is em whole (λ z. c.if-next-len.false (z ∙ sym c.len.ensures)) in
    let takes = takes_below g.F.Fn c.args.f.now n m c.args.list.now c.args.depth c.requires.placed c.in-Some.i c.in-Some.agreement c.requires.depth c.in-Some.ensures b is em whole c.requires.callable in
    (omega (arith, c.decreases, on.0, on.1), (within.0, (within.1.0, (within.1.1, (on.1, (placed, takes))))))

pub returns-then-next-len : goal.returns-then-next-len
returns-then-next-len g t c =
    changed_child g.F.Fn c.args.f.now c.args.node.now c.deref_mut.result.now c.args.list.now c.args.depth c.requires.placed c.in-Some.i c.in-Some.agreement c.requires.depth c.in-Some.ensures
    c.index_mut.result.now (sym c.index_mut.ensures.value) c.deref_mut.ensures.value (with_value c.index_mut.result.now c.change_values.new.node) (c.if-next-len.true ∙ c.len.ensures) c.change_values.ensures

pub returns-then-agreement-len : goal.returns-then-agreement-len
returns-then-agreement-len g t c =
    let n = c.args.node.now in
    let b = c.index_mut-then-agreement-len.result.now in
    let em = c.deref_mut-then-agreement-len.ensures.value in
    let items = (out-TrieNode g.row.K.Denot g.row.V.Denot n).children.items in
    let lt : c.in-Some.i < length items = omega (arith, c.in-Some.ensures.within, (out-TrieNode g.row.K.Denot g.row.V.Denot n).children.ok.0) in
    let is = sym c.index_mut-then-agreement-len.ensures.value in
    let same : c.deref.result.now ≡ b.value = c.deref.ensures ∙ ap (λ k. k.value) (item_is_unique items c.in-Some.i c.index.result.now b lt (sym c.index.ensures) is) in
    changed_below g.F.Fn c.args.f.now n c.deref_mut-then-agreement-len.result.now c.args.list.now c.args.depth c.requires.placed c.in-Some.i c.in-Some.agreement c.requires.depth c.in-Some.ensures
    b is em (with_value b c.change_branch.new.node) (c.if-agreement-len.true ∙ c.len-else-next-len.ensures ∙ ap (λ k. length (fragment_of k)) (same ∙ sym em)) c.change_branch.ensures

pub returns-else-agreement-len : goal.returns-else-agreement-len
returns-else-agreement-len g t c = inr (
  refl,
  nearest_parted c.args.node.now c.args.list.now c.args.depth c.requires.placed c.deref.result.now c.in-Some.i c.in-Some.agreement c.requires.depth c.in-Some.ensures c.index.result.now (sym c.index.ensures)
      c.deref.ensures (λ z. c.if-agreement-len.false (z ∙ sym c.len-else-next-len.ensures)) (λ z. c.if-next-len.false (z ∙ sym c.len.ensures)),
)

pub returns-in_default : goal.returns-in_default
returns-in_default g t c = inr (refl, nearest_none c.args.node.now c.args.list.now c.args.depth c.requires.placed c.requires.depth c.in_default.ensures)
