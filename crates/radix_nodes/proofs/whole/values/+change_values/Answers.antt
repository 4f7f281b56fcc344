use Rattle.std.proofs.Common.{◌<◌, ap, sym, subst, arith, length, vec_len, All}
use Rattle.std.proofs.lemmas.List.{length-set}
use Rattle.std.specs.Box.{with_value}
use Rattle.masked_tree.specs.Same.{IsPairCopy, IsCopy}
use Rattle.masked_tree.specs.Tree.{nodes_in}
use Rattle.radix_nodes.specs.declared.trie_node.TrieNode.{out-roll-TrieNode}
use Rattle.radix_nodes.specs.Nodes.{tree_of, out_of, unboxed}
use Rattle.radix_nodes.specs.Pairs.{pairs_in}
use Rattle.radix_nodes.specs.Values.{IsChangedBy, TakesPair}
use Rattle.radix_nodes.proofs.NodeLemmas.Sizes.{child_is_smaller}
use Rattle.radix_nodes.proofs.CopyLemmas.Values.{all_own, all_at_child, same_box, within, changes_start, changes_next, changes_all}
use Rattle.radix_nodes.proofs.whole.values.+change_values.Goals as goal

pub change_own-requires : goal.change_own-requires
change_own-requires g t c = record { callable = all_own (TakesPair g.F.Fn c.args.f.now) c.args.node.now c.requires.callable }

pub loop-i-init : goal.loop-i-init
loop-i-init g t c =
    let R = IsChangedBy g.F.Fn c.args.f.now in
    let n = c.args.node.now in
    let whole = out-roll-TrieNode g.row.K.Denot g.row.V.Denot _ in
    record {
      kept = let items = ap (λ x. length x.children.items) whole in let len = ap (λ x. vec_len x.children) whole in omega (arith, items, len, (out_of n).children.ok.0, c.len-i-end.ensures);
      before = changes_start R n _ (ap (λ x. x.fragment) whole) (ap (λ x. x.mask) whole) (ap (λ x. x.children.items) whole)
          (subst (λ p. IsPairCopy R (unboxed (out_of n).pair) (unboxed p)) (sym (ap (λ x. x.pair) whole)) c.change_own.ensures);
    }

pub change_values-requires : goal.change_values-requires
change_values-requires g t c κs bound =
    let R = IsChangedBy g.F.Fn c.args.f.now in
    let P = TakesPair g.F.Fn c.args.f.now in
    let n = c.args.node.now in
    let i = c.loop-i.i in
    let b = c.index_mut.result.now in
    let before = c.loop-i.invariant.before in
    let inside : c.loop-i.i < length (out_of c.loop-i.node).children.items = omega (arith, c.loop-i-test.true, c.loop-i.invariant.kept) in
    let at = sym c.index_mut.ensures.value in
    let lt = within R i n c.loop-i.node b before inside at in
    let same = same_box R i n c.loop-i.node b before inside at in
    let nodes = subst (λ m. nodes_in (tree_of m).children < nodes_in (tree_of n).children) (sym c.deref_mut.ensures.value) (child_is_smaller n i b lt same).0 in (
      omega (arith, c.decreases, nodes),
      (
        bound.0,
        (
          bound.1.0,
          (
            bound.1.1,
            subst (λ m. All P (pairs_in (tree_of m))) (sym c.deref_mut.ensures.value) (all_at_child P n i b lt same c.requires.callable),
          ),
        ),
      ),
    )

pub loop-i-preserved : goal.loop-i-preserved
loop-i-preserved g t c =
    let R = IsChangedBy g.F.Fn c.args.f.now in
    let i = c.loop-i.i in
    let b = c.index_mut.result.now in
    let changed = with_value b c.change_values.new.node in
    let inside : c.loop-i.i < length (out_of c.loop-i.node).children.items = omega (arith, c.loop-i-test.true, c.loop-i.invariant.kept) in
    let whole = out-roll-TrieNode g.row.K.Denot g.row.V.Denot _ in
    let written = ap (λ x. x.children.items) whole in
    record {
      kept = let size = ap length written in let set = length-set (out_of c.loop-i.node).children.items i changed in omega (arith, size, set, c.loop-i.invariant.kept);
      before = changes_next R i c.args.node.now c.loop-i.node b c.loop-i.invariant.before inside (sym c.index_mut.ensures.value) _ changed
          (ap (λ x. x.fragment) whole) (ap (λ x. x.mask) whole) (ap (λ x. unboxed x.pair) whole) written
          (subst (λ m. IsCopy R (tree_of m) (tree_of c.change_values.new.node)) c.deref_mut.ensures.value c.change_values.ensures);
    }

pub returns : goal.returns
returns g t c = changes_all (IsChangedBy g.F.Fn c.args.f.now) c.loop-i.i c.args.node.now c.loop-i.node (omega (arith, c.loop-i-test.false, c.loop-i.invariant.kept)) c.loop-i.invariant.before
