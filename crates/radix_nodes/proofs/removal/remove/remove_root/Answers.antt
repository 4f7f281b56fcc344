use Rattle.std.proofs.Common.{◌≡◌, ◌≢◌, ◌<◌, ◌++◌, ◌∙◌, sym, ap, subst, refl, arith, length, drop, append-nil, vec_len, [], Ok}
use Rattle.std.proofs.lemmas.List.{nil_from_length}
use Rattle.radix_nodes.specs.declared.trie_node.TrieNode.{out-TrieNode}
use Rattle.masked_tree.specs.Tree.{IsTreePlaced}
use Rattle.radix_nodes.specs.Nodes.{tree_of, fragment_of, returned, CutOutcome, RootOutcome}
use Rattle.radix_nodes.proofs.NodeLemmas.Nodes.{fragment-tree_of}
use Rattle.radix_nodes.proofs.EditLemmas.Insertion.{boxed_child_is_placed, box_is_child}
use Rattle.radix_nodes.proofs.EditLemmas.Steps.{stuck_lacks, step_is_child, fragment_of-step_to_end}
use Rattle.radix_nodes.proofs.EditLemmas.Removal.{leaf_in_box, root_cut_through_child}
use Rattle.radix_nodes.proofs.removal.remove.remove_root.Goals as goal
use Rattle.nibble_map.proofs.ListLemmas.Cut.{first-append, append-some}

pub remove_below-told-requires-clause-placed : goal.remove_below-told-requires-clause-placed
remove_below-told-requires-clause-placed g c =
    let n = c.args.node.now in
    let o = (out-TrieNode g.row.K.Denot g.row.V.Denot n).children.ok.0 in
    subst (λ m. IsTreePlaced (tree_of m)) (sym c.deref_mut.ensures.value)
    (boxed_child_is_placed n c.in-Some.i c.index_mut.result.now c.requires (omega (arith, c.in-Some.ensures.within, o)) (sym c.index_mut.ensures.value)).1

pub remove_below-told-requires-clause-some : goal.remove_below-told-requires-clause-some
remove_below-told-requires-clause-some g c =
    let n = c.args.node.now in
    let o = (out-TrieNode g.row.K.Denot g.row.V.Denot n).children.ok.0 in
    subst (λ m. fragment_of m ≢ []) (sym c.deref_mut.ensures.value)
    (boxed_child_is_placed n c.in-Some.i c.index_mut.result.now c.requires (omega (arith, c.in-Some.ensures.within, o)) (sym c.index_mut.ensures.value)).0

pub returns-else-next-len : goal.returns-else-next-len
returns-else-next-len g c =
    let n = c.args.node.now in
    let b = c.index_mut.result.now in
    let key = c.args.list.now in
    let o = (out-TrieNode g.row.K.Denot g.row.V.Denot n).children.ok.0 in
    let lt : c.in-Some.i < length (out-TrieNode g.row.K.Denot g.row.V.Denot n).children.items = omega (arith, c.in-Some.ensures.within, o) in
    let is = sym c.index_mut.ensures.value in
    let at = box_is_child n c.in-Some.i b c.requires lt is in
    let rest = drop c.in-Some.next key in
    let path : fragment_of b.value ++ rest ≡ key = ap (λ f. f ++ rest) (sym (fragment-tree_of b.value)) ∙ c.in-Some.ensures.path (tree_of b.value) at in
    let below = subst (λ m. CutOutcome (returned c.remove_below-told.result c.remove_below-told.new.removed) (fragment_of m ++ rest) (tree_of m) (tree_of c.remove_below-told.new.node)) c.deref_mut.ensures.value c.remove_below-told.ensures in
    let some = (boxed_child_is_placed n c.in-Some.i b c.requires lt is).0 in
    rw c.result_of.ensures
    (root_cut_through_child n c.in-Some.i b _ (returned c.remove_below-told.result c.remove_below-told.new.removed) (fragment_of b.value ++ rest) (fragment_of n ++ key) c.requires lt is (ap (λ p. fragment_of n ++ p) (sym path))
    (append-some (fragment_of b.value) rest some) (first-append (fragment_of b.value) rest some) below)

pub returns-in-None : goal.returns-in-None
returns-in-None g c =
    (refl, stuck_lacks c.args.node.now c.args.list.now 0 0 c.requires (omega (arith, c.if-len-eq0.false, c.len.ensures)) c.in-None.ensures)

pub returns-then-len-eq0 : goal.returns-then-len-eq0
returns-then-len-eq0 g c =
    let n = c.args.node.now in
    let own : fragment_of n ++ c.args.list.now ≡ fragment_of n = ap (λ k. fragment_of n ++ k) (nil_from_length c.args.list.now (sym c.len.ensures ∙ c.if-len-eq0.true)) ∙ append-nil (fragment_of n) in
    subst (λ p. RootOutcome (Ok c.remove_own.result) p (tree_of n) (tree_of c.remove_own.new.node)) (sym own) c.remove_own.ensures

pub remove_root_leaf-requires-clause-leaf : goal.remove_root_leaf-requires-clause-leaf
remove_root_leaf-requires-clause-leaf g c u a =
    let out = out-TrieNode g.row.K.Denot g.row.V.Denot in
    let n = c.args.node.now in
    let b = c.index.result.now in
    let bare = subst (λ m. vec_len (out m).children ≡ 0) c.deref.ensures c.if-is_end.ensures in
    leaf_in_box n c.in-Some.i b u c.requires (omega (arith, c.in-Some.ensures.within, (out n).children.ok.0)) (sym c.index.ensures) (omega (arith, bare, (out b.value).children.ok.0)) a

pub returns-then-is_end : goal.returns-then-is_end
returns-then-is_end g c =
    let n = c.args.node.now in
    let b = c.index.result.now in
    let i = c.in-Some.i in
    let is = sym c.index.ensures in
    let key = c.args.list.now in
    let s = c.in-Some.ensures in
    let at = step_is_child n key 0 i c.requires c.in-Some.next b s is in
    let end = fragment_of-step_to_end n key 0 i c.requires c.in-Some.next b s is (c.if-next-len.true ∙ c.len-in-Some.ensures) in
    subst (λ p. RootOutcome (Ok c.remove_root_leaf.result) (fragment_of n ++ p) (tree_of n) (tree_of c.remove_root_leaf.new.node)) (fragment-tree_of b.value ∙ end) (c.remove_root_leaf.ensures (tree_of b.value) at)
