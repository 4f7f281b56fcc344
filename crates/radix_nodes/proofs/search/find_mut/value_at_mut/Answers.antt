use Rattle.std.proofs.Common.{◌≡◌, ◌++◌, ◌∙◌, refl, sym, drop, subst, length, Option, MutBor, arith}
use Rattle.std.specs.Option.{IfSome}
use Rattle.masked_tree.specs.Tree.{Tree}
use Rattle.masked_tree.specs.Paths.{IsNodeAt}
use Rattle.radix_nodes.specs.declared.trie_node.TrieNode.{TrieNode, out-TrieNode}
use Rattle.radix_nodes.specs.declared.trie_node.KeyValue.{KeyValue}
use Rattle.radix_nodes.specs.Lending.{Succeeds, OnNone}
use Rattle.radix_nodes.specs.Loans.{with_child_box}
use Rattle.radix_nodes.specs.Nodes.{tree_of, fragment_of}
use Rattle.radix_nodes.proofs.LendingLemmas.Writes.{own_replaced, replaced_through_child, kept_through_child, value_like, value_written, value_kept, no_loan_no_pair, no_node_no_pair, same_tree_is_kept}
use Rattle.radix_nodes.proofs.EditLemmas.Insertion.{boxed_child_is_placed}
use Rattle.radix_nodes.proofs.EditLemmas.Steps.{stuck_lacks}
use Rattle.radix_nodes.proofs.search.find_mut.value_at_mut.Goals as goal

pub returns-then-len-eq0 : goal.returns-then-len-eq0
returns-then-len-eq0 g c =
    let n = c.args.root.now in
    let key = c.args.list.now in
    let path = fragment_of n ++ key in
    let ends : 0 ≡ length key = sym c.if-len-eq0.true ∙ c.len.ensures in
    let written : (w : TrieNode g.row.K.Denot g.row.V.Denot) → Succeeds path (tree_of n) (tree_of w) (tree_of n) (tree_of w) = λ w. own_replaced n w key 0 ends c.requires in (
      (
        refl,
        (λ w. (value_written n path (tree_of n) _ c.pair_value.result w c.pair_value.ensures.value (written _), value_like n path (tree_of n) _ w (written _))),
        (value_kept n path (tree_of n) _ (written _), no_loan_no_pair n path (tree_of n) c.pair_value.result c.requires (written n).node c.pair_value.ensures.value),
      ),
      record { writes_back = tt },
    )

pub node_below_mut-requires-clause-placed : goal.node_below_mut-requires-clause-placed
node_below_mut-requires-clause-placed g c =
    let n = c.args.root.now in
    let s = c.in-Some.ensures in
    (boxed_child_is_placed n c.in-Some.i c.child_box.result.now c.requires (omega (arith, s.within, (out-TrieNode g.row.K.Denot g.row.V.Denot n).children.ok.0)) (sym c.child_box.ensures.value)).1

pub returns-in-Some-node_below_mut : goal.returns-in-Some-node_below_mut
returns-in-Some-node_below_mut g c =
    let n = c.args.root.now in
    let key = c.args.list.now in
    let path = fragment_of n ++ key in
    let b = c.child_box.result.now in
    let i = c.in-Some.i in
    let next = c.in-Some.next in
    let sub = c.in-Some-node_below_mut.node.now in
    let r = c.pair_value-in-Some-node_below_mut in
    let written : (w : TrieNode g.row.K.Denot g.row.V.Denot) → Succeeds path (tree_of sub) (tree_of w) (tree_of n) (tree_of (with_child_box n i (c.node_below_mut.follows.lender w))) =
    λ w. replaced_through_child n i b key 0 next c.requires c.in-Some.ensures (sym c.child_box.ensures.value) (c.node_below_mut.follows.lender w) (tree_of sub) (tree_of w)
    (subst (λ (r : Option (MutBor (TrieNode g.row.K.Denot g.row.V.Denot))). IfSome r (λ x. Succeeds (fragment_of b.value ++ drop next key) (tree_of x.now) (tree_of w) (tree_of b.value) (tree_of (c.node_below_mut.follows.lender w).value)))
    c.in-Some-node_below_mut.is (c.node_below_mut.follows.holds w)) in (
      (
        refl,
        (λ w. (value_written sub path (tree_of n) _ r.result w r.ensures.value (written _), value_like sub path (tree_of n) _ w (written _))),
        (value_kept sub path (tree_of n) _ (written _), no_loan_no_pair sub path (tree_of n) r.result c.requires (written sub).node r.ensures.value),
      ),
      record { writes_back = tt },
    )

pub returns-in-None-node_below_mut : goal.returns-in-None-node_below_mut
returns-in-None-node_below_mut g c =
    let n = c.args.root.now in
    let key = c.args.list.now in
    let path = fragment_of n ++ key in
    let like = same_tree_is_kept (tree_of n) (tree_of n) refl in
    let kept = kept_through_child n c.in-Some.i c.child_box.result.now key 0 c.in-Some.next c.requires c.in-Some.ensures (sym c.child_box.ensures.value) c.node_below_mut.result c.node_below_mut.follows.lender-at-none c.node_below_mut.follows.holds-at-none in
    let free = subst (λ (r : Option (MutBor (TrieNode g.row.K.Denot g.row.V.Denot))). OnNone r ((u : Tree (KeyValue g.row.K.Denot g.row.V.Denot)) → IsNodeAt (tree_of n) path u → ⊥)) c.in-None-node_below_mut.is kept.1 in
    ((refl, (λ w. (tt, like.like)), (same_tree_is_kept (tree_of n) _ kept.0, no_node_no_pair path (tree_of n) free)), record { writes_back = tt })

pub returns-in-None : goal.returns-in-None
returns-in-None g c =
    let n = c.args.root.now in
    let like = same_tree_is_kept (tree_of n) (tree_of n) refl in
    ((refl, (λ w. (tt, like.like)), (like, stuck_lacks n c.args.list.now 0 0 c.requires (omega (arith, c.if-len-eq0.false, c.len.ensures)) c.in-None.ensures)), record { writes_back = tt })
