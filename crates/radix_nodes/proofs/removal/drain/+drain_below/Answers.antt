use Rattle.std.proofs.Common.{◌+◌, ◌<◌, ◌≤◌, ◌∙◌, ◌++◌, [], refl, ap, sym, subst, length, drop, vec_len, vec_capacity, arith}
use Rattle.std.proofs.lemmas.List.{drop-set-lt, length-set}
use Rattle.std.specs.Box.{with_value}
use Rattle.masked_tree.specs.Tree.{entries_at, nodes_in, nibbles_in}
use Rattle.radix_nodes.specs.declared.whole.size.Measured.{Measured}
use Rattle.radix_nodes.specs.declared.trie_node.TrieNode.{out-TrieNode, out-roll-TrieNode}
use Rattle.radix_nodes.specs.Nodes.{tree_of, unboxed}
use Rattle.radix_nodes.specs.Pairs.{own_pair, pairs_in}
use Rattle.radix_nodes.specs.Prunes.{CanCount}
use Rattle.radix_nodes.proofs.NodeLemmas.Nodes.{fragment-tree_of}
use Rattle.radix_nodes.proofs.EditLemmas.Drains.{LeavesChildren, left_start, left_at, left_next, left_room, left_small, left_fewer, left_noded, left_end, start_room}
use Rattle.radix_nodes.proofs.removal.drain.+drain_below.Goals as goal

pub overflow_add-gone : goal.overflow_add-gone
overflow_add-gone g t c = let f = ap length (fragment-tree_of c.args.node.now) in omega (arith, f, c.requires.small.nibbles, c.len.ensures)

pub push_pair-requires : goal.push_pair-requires
push_pair-requires g t c = record { room = let s = start_room c.args.node.now in let own = ap (λ p. length (own_pair (unboxed p))) c.take.ensures.value in omega (arith, s, own, c.requires.room) }

pub loop-i-init : goal.loop-i-init
loop-i-init g t c =
    let whole = ap (λ x. x.children) (out-roll-TrieNode g.row.K.Denot g.row.V.Denot _) in
    let o = (out-TrieNode g.row.K.Denot g.row.V.Denot c.args.node.now).children.ok.0 in
    record {
      kept = let items = ap (λ v. length v.items) whole in let len = ap vec_len whole in omega (arith, items, len, o, c.len-i-end.ensures);
      room = c.push_pair.ensures.capacity;
      left = left_start c.args.node.now _ _ _ _ _ (c.push_pair.ensures.pairs ∙ ap (λ p. c.args.list.now.items ++ own_pair (unboxed p)) c.take.ensures.value)
          (ap (λ v. v.items) whole) refl (ap (λ n. c.args.gone.now.nibbles + n) c.len.ensures);
    }

pub drain_below-requires : goal.drain_below-requires
drain_below-requires g t c κs within =
    let n = c.args.node.now in
    let b = c.index_mut.result.now in
    let e = c.deref_mut.ensures.value in
    let left = left_at (tree_of n) _ _ _ c.loop-i.i b _ _ (omega (arith, c.loop-i-test.true, c.loop-i.invariant.kept)) (sym c.index_mut.ensures.value) c.loop-i.invariant.left in
    let fewer = subst (λ m. nodes_in (tree_of m).children < nodes_in (tree_of n).children) (sym e) (left_fewer _ _ _ b _ _ _ left) in
    let room = subst (λ m. length c.loop-i.list.items + length (entries_at [] (tree_of m)) ≤ vec_capacity c.args.list.now) (sym e)
    (left_room _ _ _ b _ _ _ left (vec_capacity c.args.list.now) (omega (arith, c.requires.room, c.args.list.now.ok.0))) in
    let small = subst (λ m. CanCount c.loop-i.gone (tree_of m)) (sym e) (left_small _ _ _ b _ _ _ left c.requires.small) in
    (omega (arith, c.decreases, fewer), (within.0, (within.1, (omega (arith, room, c.loop-i.list.ok.0, c.loop-i.invariant.room), small))))

pub overflow_add-gone-in-loop-i : goal.overflow_add-gone-in-loop-i
overflow_add-gone-in-loop-i g t c =
    let n = c.args.node.now in
    let b = c.index_mut.result.now in
    let left = left_at (tree_of n) _ _ _ c.loop-i.i b _ _ (omega (arith, c.loop-i-test.true, c.loop-i.invariant.kept)) (sym c.index_mut.ensures.value) c.loop-i.invariant.left in
    let e = ap (λ m. nodes_in (tree_of m).children) c.deref_mut.ensures.value in
    let noded = left_noded _ _ _ b _ _ _ left in
    omega (arith, noded, e, c.drain_below.ensures.nodes, c.requires.small.nodes)

pub loop-i-preserved : goal.loop-i-preserved
loop-i-preserved g t c =
    let n = c.args.node.now in
    let b = c.index_mut.result.now in
    let bs = (out-TrieNode g.row.K.Denot g.row.V.Denot c.loop-i.node).children.items in
    let left = left_at (tree_of n) _ _ bs c.loop-i.i b _ _ (omega (arith, c.loop-i-test.true, c.loop-i.invariant.kept)) (sym c.index_mut.ensures.value) c.loop-i.invariant.left in
    let e = c.deref_mut.ensures.value in
    let drained = with_value b c.drain_below.new.node in
    let gone : Measured = record { nodes = c.drain_below.new.gone.nodes + 1; nibbles = c.drain_below.new.gone.nibbles } in
    let written = ap (λ x. x.children.items) (out-roll-TrieNode g.row.K.Denot g.row.V.Denot _) in
    record {
      kept = let size = ap length written in let set = length-set bs c.loop-i.i drained in omega (arith, size, set, c.loop-i.invariant.kept);
      room = c.drain_below.ensures.capacity ∙ c.loop-i.invariant.room;
      left = subst (λ rest. LeavesChildren (tree_of n) c.args.list.now.items c.drain_below.new.list.items rest c.args.gone.now gone)
          (sym (ap (drop (c.loop-i.i + 1)) written ∙ drop-set-lt (c.loop-i.i + 1) bs c.loop-i.i drained (omega (arith))))
          (left_next _ _ _ b _ _ _ left _ gone (c.drain_below.ensures.pairs ∙ ap (λ m. c.loop-i.list.items ++ pairs_in (tree_of m)) e)
          (let more = ap (λ m. nodes_in (tree_of m).children) e in omega (arith, more, c.drain_below.ensures.nodes))
          (c.drain_below.ensures.nibbles ∙ ap (λ m. c.loop-i.gone.nibbles + (length (tree_of m).fragment + nibbles_in (tree_of m).children)) e));
    }

pub returns-clause-pairs : goal.returns-clause-pairs
returns-clause-pairs g t c = (left_end _ _ _ c.loop-i.node c.loop-i.i _ _ c.loop-i.invariant.left (omega (arith, c.loop-i-test.false, c.loop-i.invariant.kept))).0

pub returns-clause-nodes : goal.returns-clause-nodes
returns-clause-nodes g t c = (left_end _ _ _ c.loop-i.node c.loop-i.i _ _ c.loop-i.invariant.left (omega (arith, c.loop-i-test.false, c.loop-i.invariant.kept))).1

pub returns-clause-nibbles : goal.returns-clause-nibbles
returns-clause-nibbles g t c = (left_end _ _ _ c.loop-i.node c.loop-i.i _ _ c.loop-i.invariant.left (omega (arith, c.loop-i-test.false, c.loop-i.invariant.kept))).2
