use Rattle.std.proofs.Common.{◌∙◌, ◌<◌, ap, sym, subst, length, vec_len, arith}
use Rattle.std.specs.Box.{with_value}
use Rattle.masked_tree.specs.Tree.{nodes_in}
use Rattle.radix_nodes.specs.declared.trie_node.TrieNode.{out-roll-TrieNode}
use Rattle.radix_nodes.specs.Nodes.{tree_of, out_of}
use Rattle.radix_nodes.specs.Shapes.{HaveSameShape}
use Rattle.radix_nodes.proofs.NodeLemmas.Sizes.{child_is_smaller}
use Rattle.radix_nodes.proofs.CopyLemmas.Moves.{moves_start, within_other, within_old, old_box, shaped_at, moves_next, moves_all}
use Rattle.radix_nodes.proofs.whole.compact.+move_contents.Goals as goal

pub loop-i-init : goal.loop-i-init
loop-i-init g t c = record {
  kept = let v = ap vec_len c.swap_own.ensures.given in omega (arith, (out_of c.swap_own.new.from).children.ok.0, c.len-i-end.ensures);
  before = moves_start c.args.from.now c.args.into.now _ _ c.swap_own.ensures.fragment c.swap_own.ensures.pair c.swap_own.ensures.mask c.swap_own.ensures.given c.swap_own.ensures.removed c.requires;
}

pub index_mut-requires-in-loop-i : goal.index_mut-requires-in-loop-i
index_mut-requires-in-loop-i g t c =
    let inside : c.loop-i.i < length (out_of c.loop-i.from).children.items = omega (arith, c.loop-i-test.true, c.loop-i.invariant.kept) in
    let other = within_other c.loop-i.i c.args.from.now c.loop-i.from c.loop-i.into c.loop-i.invariant.before inside in
    omega (arith, other, (out_of c.loop-i.into).children.ok.0)

pub move_contents-requires : goal.move_contents-requires
move_contents-requires g t c κs within =
    let n = c.args.from.now in
    let i = c.loop-i.i in
    let f = c.loop-i.from in
    let m = c.loop-i.into in
    let b = c.index_mut.result.now in
    let d = c.index_mut-in-loop-i.result.now in
    let before = c.loop-i.invariant.before in
    let inside : c.loop-i.i < length (out_of c.loop-i.from).children.items = omega (arith, c.loop-i-test.true, c.loop-i.invariant.kept) in
    let at = sym c.index_mut.ensures.value in
    let other = sym c.index_mut-in-loop-i.ensures.value in
    let lt = within_old i n f m before b d inside at other in
    let same = old_box i n f m before b d inside at other in
    let nodes = subst (λ z. nodes_in (tree_of z).children < nodes_in (tree_of n).children) (sym c.deref_mut.ensures.value) (child_is_smaller n i b lt same).0 in
    let shape = subst (λ z. HaveSameShape (tree_of z).children (tree_of c.deref_mut-in-loop-i.result.now).children) (sym c.deref_mut.ensures.value)
    (subst (λ z. HaveSameShape (tree_of b.value).children (tree_of z).children) (sym c.deref_mut-in-loop-i.ensures.value) (shaped_at i n f m before b d inside at other)) in
    (omega (arith, c.decreases, nodes), (within.0, (within.1, shape)))

pub loop-i-preserved : goal.loop-i-preserved
loop-i-preserved g t c =
    let n = c.args.from.now in
    let i = c.loop-i.i in
    let f = c.loop-i.from in
    let m = c.loop-i.into in
    let b = c.index_mut.result.now in
    let d = c.index_mut-in-loop-i.result.now in
    let inside : c.loop-i.i < length (out_of c.loop-i.from).children.items = omega (arith, c.loop-i-test.true, c.loop-i.invariant.kept) in
    let left = out-roll-TrieNode g.row.K.Denot g.row.V.Denot _ in
    let whole = out-roll-TrieNode g.row.K.Denot g.row.V.Denot _ in
    let given = ap (λ x. x.children.items) left in
    let next = moves_next i n f m c.loop-i.invariant.before b d inside (sym c.index_mut.ensures.value) (sym c.index_mut-in-loop-i.ensures.value) _ _
    (with_value b c.move_contents.new.from) (with_value d c.move_contents.new.into) (ap (λ x. x.fragment) whole) (ap (λ x. x.pair) whole) (ap (λ x. x.mask) whole)
    given (ap (λ x. x.children.items) whole) (c.move_contents.ensures ∙ ap (λ z. tree_of z) c.deref_mut.ensures.value) in
    record {
      kept = next.count ∙ sym c.loop-i.invariant.before.count ∙ c.loop-i.invariant.kept;
      before = next;
    }

pub returns : goal.returns
returns g t c =
    moves_all c.loop-i.i c.args.from.now c.loop-i.from c.loop-i.into c.loop-i.invariant.before (omega (arith, c.loop-i-test.false, c.loop-i.invariant.kept))
