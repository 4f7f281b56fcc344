use Rattle.std.proofs.Common.{◌≡◌, ◌++◌, ◌∷◌, [], ap, sym, subst, ◌∙◌, arith, length}
use Rattle.std.proofs.lemmas.List.{length-append}
use Rattle.masked_tree.specs.Paths.{IsNodeAt}
use Rattle.nibble_map.specs.Nibbles.{IsShort}
use Rattle.radix_nodes.specs.declared.trie_node.TrieNode.{out-TrieNode}
use Rattle.radix_nodes.specs.Nodes.{tree_of, children_of, fragment_of}
use Rattle.radix_nodes.proofs.NodeLemmas.Nodes.{fragment-tree_of, children-tree_of}
use Rattle.radix_trie.specs.Loci.{child_views}
use Rattle.radix_nodes.proofs.NodeLemmas.FewChildren.{few_children}
use Rattle.radix_trie.proofs.PathLemmas.ChildViews.{child_at, views_pushed, child_view_is_short, direct_child}
use Rattle.radix_trie.proofs.PathLemmas.Parts.{node_down, node_placed}
use Rattle.radix_trie.proofs.PathLemmas.Loci.{false_is_not_true}
use Rattle.radix_trie.proofs.view.children.children_of.Goals as goal

pub loop-child-init : goal.loop-child-init
loop-child-init g c = record {
  same = ap (λ x. x ++ child_views c.args.trie.now c.args.path.now (children_of c.deref-child-items.result.now)) c.new-children.ensures
      ∙ ap (λ bs. child_views c.args.trie.now c.args.path.now (children_of bs)) c.deref-child-items.ensures.value
      ∙ ap (child_views c.args.trie.now c.args.path.now) (sym (children-tree_of c.args.node.now));
  count = ap length c.new-children.ensures;
}

pub new-requires : goal.new-requires
new-requires g c =
    let n = c.args.node.now in
    let b = c.child-item.result in
    let at = child_at n c.loop-child.child-index b _ c.deref-child-items.ensures.value c.loop-child-test.true c.child-item.is in
    let child = direct_child c.loop-child.child-index (tree_of n).children (tree_of b.value) at in
    let down = node_down c.requires.0 c.args.path.now (tree_of n) (tree_of b.value).fragment (tree_of b.value) c.requires.2 child in
    let path : c.args.path.now ++ (tree_of b.value).fragment ≡ c.in_ok-whole.whole =
    ap (λ f. c.args.path.now ++ f) (fragment-tree_of b.value ∙ ap fragment_of (sym c.deref.ensures)) ∙ sym c.in_ok-whole.ensures.made in (
      c.requires.0,
      c.requires.1,
      subst (λ y. IsNodeAt c.requires.0 y (tree_of c.deref-in-loop-child.result.now)) path
          (subst (λ k. IsNodeAt c.requires.0 (c.args.path.now ++ (tree_of b.value).fragment) (tree_of k)) (sym c.deref-in-loop-child.ensures) down),
    )

pub push-requires : goal.push-requires
push-requires g c =
    let n = c.args.node.now in
    let few = few_children n (out-TrieNode g.row.K.Denot g.row.V.Denot n).children.items (sym (children-tree_of n)) (node_placed c.requires.0 c.args.path.now (tree_of n) c.requires.1.masked c.requires.2) in
    (omega arith, omega (arith, few, c.loop-child.invariant.count, c.loop-child-test.true, ap length c.deref-child-items.ensures.value))

pub loop-child-preserved : goal.loop-child-preserved
loop-child-preserved g c =
    let b = c.child-item.result in
    let path : c.in_ok-whole.whole ≡ c.args.path.now ++ (tree_of b.value).fragment =
    c.in_ok-whole.ensures.made ∙ ap (λ f. c.args.path.now ++ f) (ap fragment_of c.deref.ensures ∙ sym (fragment-tree_of b.value)) in
    record {
      same = views_pushed c.args.trie.now c.args.path.now c.deref-child-items.result.now c.loop-child.child-index b c.loop-child.children c.push.new.self c.new.result
          c.loop-child-test.true c.child-item.is c.new.ensures.map (c.new.ensures.path ∙ path) c.push.ensures ∙ c.loop-child.invariant.same;
      count = omega (arith, ap length c.push.ensures, length-append c.loop-child.children (c.new.result ∷ []), c.loop-child.invariant.count);
    }

pub returns-in_err-whole-clause-short : goal.returns-in_err-whole-clause-short
returns-in_err-whole-clause-short g c = λ all.
    let n = c.args.node.now in
    let b = c.child-item.result in
    let at = child_at n c.loop-child.child-index b _ c.deref-child-items.ensures.value c.loop-child-test.true c.child-item.is in
    let own = child_view_is_short c.args.trie.now c.args.path.now c.loop-child.child-index (tree_of n).children (tree_of b.value) at all in
    absurd (false_is_not_true (c.in_err-whole.ensures.short (subst (λ f. IsShort (c.args.path.now ++ f)) (fragment-tree_of b.value ∙ ap fragment_of (sym c.deref.ensures)) own)))
