use Rattle.std.proofs.Common.{◌≡◌, ◌≢◌, ◌<◌, ◌++◌, ◌∙◌, refl, sym, ap, subst, arith, length, drop, append-nil, vec_len, []}
use Rattle.std.proofs.Math.Seq.{drop-length}
use Rattle.radix_nodes.specs.declared.trie_node.TrieNode.{out-TrieNode}
use Rattle.masked_tree.specs.Tree.{IsTreePlaced}
use Rattle.radix_nodes.specs.Nodes.{tree_of, fragment_of, returned, CutOutcome}
use Rattle.radix_nodes.proofs.NodeLemmas.Nodes.{fragment-tree_of}
use Rattle.radix_nodes.proofs.EditLemmas.Insertion.{boxed_child_is_placed, box_is_child}
use Rattle.radix_nodes.proofs.EditLemmas.Steps.{stuck_lacks}
use Rattle.radix_nodes.proofs.EditLemmas.Merging.{item_is_unique}
use Rattle.radix_nodes.proofs.EditLemmas.Removal.{leaf_in_box, cut_through_child}
use Rattle.radix_nodes.proofs.removal.remove.+remove_below.Goals.{else-next-len-via-then-next-len+else-is_end, else-next-len-via-else-next-len}
use Rattle.radix_nodes.proofs.removal.remove.+remove_below.Goals as goal
use Rattle.nibble_map.proofs.ListLemmas.Cut.{first-append, append-some}

pub remove_leaf-requires-clause-leaf : goal.remove_leaf-requires-clause-leaf
remove_leaf-requires-clause-leaf g t c u a =
    let out = out-TrieNode g.row.K.Denot g.row.V.Denot in
    let n = c.args.node.now in
    let b = c.index.result.now in
    let bare = subst (λ m. vec_len (out m).children ≡ 0) c.deref.ensures c.if-is_end.ensures in
    leaf_in_box n c.in-Some.i b u c.requires.placed (omega (arith, c.in-Some.ensures.within, (out n).children.ok.0)) (sym c.index.ensures) (omega (arith, bare, (out b.value).children.ok.0)) a

pub remove_below-requires : goal.remove_below-requires
remove_below-requires g t c =
    let out = out-TrieNode g.row.K.Denot g.row.V.Denot in
    let n = c.args.node.now in
    let b = c.index_mut.result.now in
    let o = (out n).children.ok.0 in
    let lt : c.in-Some.i < length (out n).children.items = omega (arith, c.in-Some.ensures.within, o) in
    let child = boxed_child_is_placed n c.in-Some.i b c.requires.placed lt (sym c.index_mut.ensures.value) in
    let placed : IsTreePlaced (tree_of c.deref_mut.result.now) = subst (λ m. IsTreePlaced (tree_of m)) (sym c.deref_mut.ensures.value) child.1 in
    let some : fragment_of c.deref_mut.result.now ≢ [] = subst (λ m. fragment_of m ≢ []) (sym c.deref_mut.ensures.value) child.0 in
    let inner : c.in-Some.next ≡ length c.args.list.now → 0 < vec_len (out c.deref_mut.result.now).children = λ e.
    elim c.else-next-len.branch [
      | else-next-len-via-then-next-len+else-is_end w ↦
          subst (λ m. 0 < vec_len (out m).children)
          (w.deref.ensures ∙ ap (λ b. b.value) (item_is_unique (out n).children.items c.in-Some.i w.index.result.now b lt (sym w.index.ensures) (sym c.index_mut.ensures.value)) ∙ sym c.deref_mut.ensures.value)
          w.if-is_end.ensures
      | else-next-len-via-else-next-len w ↦ absurd (w.if-next-len.false (e ∙ sym c.len-in-Some.ensures))
    ] in
    λ κs l. (omega (arith, c.decreases, c.in-Some.ensures.further, c.in-Some.ensures.inside), (l.0, (l.1, (c.in-Some.ensures.inside, (placed, (some, (inner, c.requires.none)))))))

pub returns-then-is_end : goal.returns-then-is_end
returns-then-is_end g t c =
    let n = c.args.node.now in
    let b = c.index.result.now in
    let key = c.args.list.now in
    let o = (out-TrieNode g.row.K.Denot g.row.V.Denot n).children.ok.0 in
    let at = box_is_child n c.in-Some.i b c.requires.placed (omega (arith, c.in-Some.ensures.within, o)) (sym c.index.ensures) in
    let f = (tree_of b.value).fragment in
    let end : f ≡ drop c.args.depth key =
    sym (append-nil f) ∙ ap (λ r. f ++ r) (sym (ap (λ d. drop d key) (c.if-next-len.true ∙ c.len-in-Some.ensures) ∙ drop-length key)) ∙ c.in-Some.ensures.path (tree_of b.value) at in
    rw c.write_result-then-is_end.ensures (subst (λ p. CutOutcome c.remove_leaf.result (fragment_of n ++ p) (tree_of n) (tree_of c.remove_leaf.new.node)) end (c.remove_leaf.ensures (tree_of b.value) at))

pub returns-else-next-len : goal.returns-else-next-len
returns-else-next-len g t c =
    let n = c.args.node.now in
    let b = c.index_mut.result.now in
    let key = c.args.list.now in
    let o = (out-TrieNode g.row.K.Denot g.row.V.Denot n).children.ok.0 in
    let lt : c.in-Some.i < length (out-TrieNode g.row.K.Denot g.row.V.Denot n).children.items = omega (arith, c.in-Some.ensures.within, o) in
    let is = sym c.index_mut.ensures.value in
    let at = box_is_child n c.in-Some.i b c.requires.placed lt is in
    let rest = drop c.in-Some.next key in
    let path : fragment_of b.value ++ rest ≡ drop c.args.depth key = ap (λ f. f ++ rest) (sym (fragment-tree_of b.value)) ∙ c.in-Some.ensures.path (tree_of b.value) at in
    let below = subst (λ m. CutOutcome (returned c.remove_below.result c.remove_below.new.removed) (fragment_of m ++ rest) (tree_of m) (tree_of c.remove_below.new.node)) c.deref_mut.ensures.value c.remove_below.ensures in
    let some = (boxed_child_is_placed n c.in-Some.i b c.requires.placed lt is).0 in
    cut_through_child n c.in-Some.i b _ (returned c.remove_below.result c.remove_below.new.removed) (fragment_of b.value ++ rest) (fragment_of n ++ drop c.args.depth key) c.requires.placed lt is (ap (λ p. fragment_of n ++ p) (sym path))
    (append-some (fragment_of b.value) rest some) (first-append (fragment_of b.value) rest some) below

pub returns-in-None : goal.returns-in-None
returns-in-None g t c =
    rw c.requires.none
    (refl, stuck_lacks c.args.node.now c.args.list.now c.args.depth 0 c.requires.placed (omega (arith, c.requires.depth, c.if-depth-len.false, c.len.ensures)) c.in-None.ensures)
