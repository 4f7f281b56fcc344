use Rattle.std.proofs.Common.{◌≡◌, ◌≢◌, ◌+◌, ◌<◌, ◌≤◌, ◌∙◌, ◌++◌, take, drop, sym, ap, subst, length, slice_index, arith, Ok, Err}
use Rattle.std.proofs.Math.Seq.{drop-length}
use Rattle.nibble_map.specs.Trees.{first}
use Rattle.masked_tree.specs.Agreement.{Agrees}
use Rattle.masked_tree.specs.Mask.{IsPlaceOf}
use Rattle.masked_tree.specs.Tree.{firsts, IsTreePlaced}
use Rattle.radix_nodes.specs.Nodes.{tree_of, fragment_of, EditOutcome}
use Rattle.radix_nodes.specs.declared.trie_node.TrieNode.{out-TrieNode}
use Rattle.radix_nodes.proofs.EditLemmas.Insertion.{set_step, edit_through_child, boxed_child_is_placed, first-fragment_at_place, place_is_within, place_by_mask, edit_replaces}
use Rattle.radix_nodes.proofs.EditLemmas.Settling.{settles_map}
use Rattle.radix_nodes.proofs.EditLemmas.KeyParts.{agreed_inside, agreed_apart, first-take, take_some, append-agreed_fragment, append-agreed_part, split_some, length_some}
use Rattle.radix_nodes.proofs.insertion.insert.+insert_below.Goals as goal
use Rattle.nibble_map.proofs.ListLemmas.Cut.{first-append, append-some}

pub returns-then-depth-len : goal.returns-then-depth-len
returns-then-depth-len g t c =
    settles_map c.set_pair.result c.args.change.now c.set_pair.new.change
    (λ x outcome. set_step outcome c.args.node.now c.set_pair.new.at x _
    (ap (λ d. drop d c.args.list.now) (c.if-depth-len.true ∙ c.len.ensures) ∙ drop-length c.args.list.now) c.requires.placed)
    c.set_pair.ensures

pub index_mut-child-requires : goal.index_mut-child-requires
index_mut-child-requires g t c =
    let n = c.args.node.now in
    let w = place_is_within n c.in-Ok.i c.get.result c.requires.placed (place_by_mask n c.get.result (Ok c.in-Ok.i) c.requires.placed c.in-Ok.ensures) in
    let o = (out-TrieNode g.row.K.Denot g.row.V.Denot n).children.ok.0 in
    omega (arith, w, o)

pub agreed-n-requires-clause-depth : goal.agreed-n-requires-clause-depth
agreed-n-requires-clause-depth g t c = omega (arith, c.requires.depth, c.if-depth-len.false, c.len.ensures)

pub agreed-n-requires-clause-start : goal.agreed-n-requires-clause-start
agreed-n-requires-clause-start g t c =
    let n = c.args.node.now in
    let b = c.index_mut-child.result.now in
    let at = place_by_mask n c.get.result (Ok c.in-Ok.i) c.requires.placed c.in-Ok.ensures in
    let lt = place_is_within n c.in-Ok.i c.get.result c.requires.placed at in
    ap (λ m. first (fragment_of m)) c.deref.ensures
    ∙ first-fragment_at_place n c.in-Ok.i b c.requires.placed c.get.result lt (sym c.index_mut-child.ensures.value) at
    ∙ c.get.ensures.value

pub insert_below-requires : goal.insert_below-requires
insert_below-requires g t c =
    let n = c.args.node.now in
    let b = c.index_mut-child.result.now in
    let at = place_by_mask n c.get.result (Ok c.in-Ok.i) c.requires.placed c.in-Ok.ensures in
    let lt = place_is_within n c.in-Ok.i c.get.result c.requires.placed at in
    let child = boxed_child_is_placed n c.in-Ok.i b c.requires.placed lt (sym c.index_mut-child.ensures.value) in
    let placed : IsTreePlaced (tree_of c.deref_mut.result.now) = subst (λ m. IsTreePlaced (tree_of m)) (sym c.deref_mut.ensures.value) child.1 in
    let len : c.agreed-n.result.same ≡ length (fragment_of b.value) = c.if-n-len.true ∙ c.len-in-Ok.ensures ∙ ap (λ m. length (fragment_of m)) c.deref-in-Ok.ensures in
    let some = length_some (fragment_of b.value) child.0 in
    let inside = agreed_inside _ c.args.list.now c.args.depth c.agreed-n.result.same c.agreed-n.result.compared (omega (arith, c.requires.depth)) c.agreed-n.ensures.agrees in
    λ κs l. (omega (arith, c.decreases, some, len, inside), (l.0, (l.1, (inside, (placed, c.requires.given)))))

pub split_and_insert-requires-clause-some : goal.split_and_insert-requires-clause-some
split_and_insert-requires-clause-some g t c =
    let n = c.args.node.now in
    let b = c.index_mut-child.result.now in
    let at = place_by_mask n c.get.result (Ok c.in-Ok.i) c.requires.placed c.in-Ok.ensures in
    let lt = place_is_within n c.in-Ok.i c.get.result c.requires.placed at in
    let is = sym c.index_mut-child.ensures.value in
    split_some (fragment_of b.value) c.args.list.now c.args.depth c.agreed-n.result.same c.get.result
    (boxed_child_is_placed n c.in-Ok.i b c.requires.placed lt is).0
    (first-fragment_at_place n c.in-Ok.i b c.requires.placed c.get.result lt is at)
    c.get.ensures.value
    (omega (arith, c.requires.depth, c.if-depth-len.false, c.len.ensures))
    (subst (λ m. c.agreed-n.result.same < length (fragment_of m) → c.args.depth + c.agreed-n.result.same < length c.args.list.now → slice_index (fragment_of m) c.agreed-n.result.same ≢ slice_index c.args.list.now (c.args.depth + c.agreed-n.result.same)) c.deref.ensures (agreed_apart _ c.args.list.now c.args.depth c.agreed-n.result.same c.agreed-n.result.compared c.agreed-n.ensures.agrees))

pub split_and_insert-requires-clause-depth : goal.split_and_insert-requires-clause-depth
split_and_insert-requires-clause-depth g t c =
    agreed_inside _ c.args.list.now c.args.depth c.agreed-n.result.same c.agreed-n.result.compared (omega (arith, c.requires.depth)) c.agreed-n.ensures.agrees

pub split_and_insert-requires-clause-apart : goal.split_and_insert-requires-clause-apart
split_and_insert-requires-clause-apart g t c =
    let b = c.index_mut-child.result.now in
    let n = c.agreed-n.result.same in
    let agrees = subst (λ m. Agrees (fragment_of m) (drop c.args.depth c.args.list.now) n c.agreed-n.result.compared) c.deref.ensures c.agreed-n.ensures.agrees in
    let len : c.len-in-Ok.result ≡ length (fragment_of b.value) = c.len-in-Ok.ensures ∙ ap (λ m. length (fragment_of m)) c.deref-in-Ok.ensures in
    let most = agrees.within in
    agreed_apart (fragment_of b.value) c.args.list.now c.args.depth n c.agreed-n.result.compared agrees (omega (arith, most, len, c.if-n-len.false))

pub split_and_insert-requires-clause-placed : goal.split_and_insert-requires-clause-placed
split_and_insert-requires-clause-placed g t c =
    let n = c.args.node.now in
    let at = place_by_mask n c.get.result (Ok c.in-Ok.i) c.requires.placed c.in-Ok.ensures in
    let lt = place_is_within n c.in-Ok.i c.get.result c.requires.placed at in
    (boxed_child_is_placed n c.in-Ok.i c.index_mut-child.result.now c.requires.placed lt (sym c.index_mut-child.ensures.value)).1

pub add_leaf-requires-clause-gap : goal.add_leaf-requires-clause-gap
add_leaf-requires-clause-gap g t c =
    let n = c.args.node.now in
    subst (λ y. IsPlaceOf y (firsts (tree_of n).children) (Err c.in-Err.i)) c.get.ensures.value (place_by_mask n c.get.result (Err c.in-Err.i) c.requires.placed c.in-Err.ensures)

pub returns-then-n-len : goal.returns-then-n-len
returns-then-n-len g t c =
    let key = c.args.list.now in
    let node = c.args.node.now in
    let b = c.index_mut-child.result.now in
    let n = c.agreed-n.result.same in
    let depth = c.args.depth in
    let at = place_by_mask node c.get.result (Ok c.in-Ok.i) c.requires.placed c.in-Ok.ensures in
    let lt = place_is_within node c.in-Ok.i c.get.result c.requires.placed at in
    let is = sym c.index_mut-child.ensures.value in
    let len : n ≡ length (fragment_of b.value) = c.if-n-len.true ∙ c.len-in-Ok.ensures ∙ ap (λ m. length (fragment_of m)) c.deref-in-Ok.ensures in
    let same = subst (λ m. take n (fragment_of m) ≡ take n (drop depth key)) c.deref.ensures c.agreed-n.ensures.agrees.alike in
    let path = append-agreed_fragment (fragment_of b.value) key depth n len same in
    let some = (boxed_child_is_placed node c.in-Ok.i b c.requires.placed lt is).0 in
    let rest = drop (depth + n) key in
    settles_map c.insert_below.result c.args.change.now c.insert_below.new.change
    (λ x outcome below. edit_through_child node c.in-Ok.i b c.requires.placed outcome _ x (fragment_of b.value ++ rest) (fragment_of node ++ drop depth key) lt is
    (ap (λ p. fragment_of node ++ p) (sym path))
    (append-some (fragment_of b.value) rest some) (first-append (fragment_of b.value) rest some)
    (edit_replaces outcome x _ _ _ (subst (λ m. EditOutcome outcome x (fragment_of m ++ rest) (tree_of m) (tree_of c.insert_below.new.node)) c.deref_mut.ensures.value below)))
    c.insert_below.ensures

pub returns-else-n-len : goal.returns-else-n-len
returns-else-n-len g t c =
    let key = c.args.list.now in
    let node = c.args.node.now in
    let b = c.index_mut-child.result.now in
    let n = c.agreed-n.result.same in
    let depth = c.args.depth in
    let at = place_by_mask node c.get.result (Ok c.in-Ok.i) c.requires.placed c.in-Ok.ensures in
    let lt = place_is_within node c.in-Ok.i c.get.result c.requires.placed at in
    let is = sym c.index_mut-child.ensures.value in
    let same = subst (λ m. take n (fragment_of m) ≡ take n (drop depth key)) c.deref.ensures c.agreed-n.ensures.agrees.alike in
    let rest = drop (depth + n) key in
    let len : c.len-in-Ok.result ≡ length (fragment_of b.value) = c.len-in-Ok.ensures ∙ ap (λ m. length (fragment_of m)) c.deref-in-Ok.ensures in
    let most : n ≤ length (fragment_of b.value) = subst (λ m. n ≤ length (fragment_of m)) c.deref.ensures c.agreed-n.ensures.agrees.within in
    let within : n < length (fragment_of b.value) = omega (arith, most, len, c.if-n-len.false) in
    let positive : 0 < n = split_some (fragment_of b.value) key depth n c.get.result (boxed_child_is_placed node c.in-Ok.i b c.requires.placed lt is).0
    (first-fragment_at_place node c.in-Ok.i b c.requires.placed c.get.result lt is at) c.get.ensures.value (omega (arith, c.requires.depth, c.if-depth-len.false, c.len.ensures))
    (subst (λ m. n < length (fragment_of m) → depth + n < length key → slice_index (fragment_of m) n ≢ slice_index key (depth + n)) c.deref.ensures (agreed_apart _ c.args.list.now c.args.depth c.agreed-n.result.same c.agreed-n.result.compared c.agreed-n.ensures.agrees)) in
    let part = take_some (fragment_of b.value) n positive within in
    settles_map c.split_and_insert.result c.args.change.now c.split_and_insert.new.change
    (λ x outcome. edit_through_child node c.in-Ok.i b c.requires.placed outcome c.split_and_insert.new.slot x (take n (fragment_of b.value) ++ drop (depth + n) key) (fragment_of node ++ drop depth key) lt is
    (ap (λ p. fragment_of node ++ p) (sym (append-agreed_part (fragment_of b.value) key depth n same)))
    (append-some (take n (fragment_of b.value)) rest part)
    (first-append (take n (fragment_of b.value)) rest part ∙ first-take (fragment_of b.value) n positive))
    c.split_and_insert.ensures
