use Rattle.std.proofs.Common.{rules, ◌≡◌, ◌++◌, cond, true, false, ◌<◌, ◌≤◌, ◌∙◌, get_or, ap, sym, subst, length, arith}
use Rattle.masked_tree.specs.Tree.{nodes_in}
use Rattle.radix_nodes.specs.declared.trie_node.TrieNode.{out-TrieNode}
use Rattle.radix_nodes.specs.Nodes.{tree_of, fragment_of, unboxed}
use Rattle.radix_nodes.specs.Soundness.{key_test, form_test, pair_count_of, pair_count_of_all, test_of, tests_of}
use Rattle.masked_tree.specs.Sizes.{own_count}
use Rattle.std.specs.Prelude.{vec_len, ◌==◌}
use Rattle.radix_nodes.proofs.NodeLemmas.Sizes.{child_is_smaller, own_some, own_none}
use Rattle.radix_nodes.proofs.CheckerLemmas.Nodes.{child_pairs, pairs_out, pairs_end, tests_end, false_by_key, false_by_form, test_by_children, next_pairs, false_by_start, false_by_child, test_goes_on, starts-empty, starts-below, starts-in_order}
use Rattle.nibble_map.specs.Trees.{first}
use Rattle.radix_nodes.proofs.whole.checker.+test.Goals as goal

pub returns-then-not-branch-clause-sound : goal.returns-then-not-branch-clause-sound
returns-then-not-branch-clause-sound g t c =
    let e = g.K.TrieKey.encoding in
    let n = c.args.node.now in
    let no : c.in_ok-has_key.field-0 ≡ false = search rules in
    false_by_key e c.args.prefix.now n (ap (λ p. key_test e p (unboxed (out-TrieNode g.row.K.Denot g.row.V.Denot n).pair)) (sym c.in_ok-path.ensures.made) ∙ sym c.in_ok-has_key.ensures ∙ no)

pub returns-then-not-has_form-clause-sound : goal.returns-then-not-has_form-clause-sound
returns-then-not-has_form-clause-sound g t c =
    let e = g.K.TrieKey.encoding in
    let n = c.args.node.now in
    let x = out-TrieNode g.row.K.Denot g.row.V.Denot n in
    let made = sym c.in_ok-path.ensures.made in
    let yes : c.in_ok-has_key.field-0 ≡ true = search rules in
    let no : c.has_form.result ≡ false = search rules in
    false_by_form e c.args.prefix.now n (ap (λ p. key_test e p (unboxed x.pair)) made ∙ sym c.in_ok-has_key.ensures ∙ yes)
    (ap (λ p. form_test p x.fragment (unboxed x.pair) (vec_len x.children)) made ∙ sym c.has_form.ensures ∙ no)

pub loop-child-init : goal.loop-child-init
loop-child-init g t c =
    let e = g.K.TrieKey.encoding in
    let n = c.args.node.now in
    let x = out-TrieNode g.row.K.Denot g.row.V.Denot n in
    let items = c.deref-child-items.ensures.value in
    let made = sym c.in_ok-path.ensures.made in
    let own : c.if-has_pair.count ≡ own_count (unboxed x.pair) = grind (arith, own_some, own_none) in
    let all = ap (λ bs. pair_count_of_all bs) items in
    let yes : c.in_ok-has_key.field-0 ≡ true = search rules in
    let good : c.has_form.result ≡ true = search rules in (
      omega (arith, own, all, pairs_out n),
      ap (λ bs. tests_of e (c.args.prefix.now ++ fragment_of n) 0 0 x.mask bs) items
          ∙ test_by_children e c.args.prefix.now n (ap (λ p. key_test e p (unboxed x.pair)) made ∙ sym c.in_ok-has_key.ensures ∙ yes)
          (ap (λ p. form_test p x.fragment (unboxed x.pair) (vec_len x.children)) made ∙ sym c.has_form.ensures ∙ good),
    )

pub overflow_add-count : goal.overflow_add-count
overflow_add-count g t c =
    let b = c.child-item.result in
    let sound : c.in_ok-sound.sound ≡ true = search rules in
    let size : c.in_ok-sound.size ≡ pair_count_of b.value = c.in_ok-sound.ensures.count ∙ ap (λ s. cond s (pair_count_of c.deref-in-loop-child-2.result.now) 0) sound ∙ ap (λ k. pair_count_of k) c.deref-in-loop-child-2.ensures in
    let next = next_pairs c.deref-child-items.result.now c.loop-child.child-index b c.loop-child-test.true c.child-item.is in
    omega (arith, c.loop-child.invariant.0, next, size, c.requires)

pub returns-then-seen-node-clause-sound : goal.returns-then-seen-node-clause-sound
returns-then-seen-node-clause-sound g t c =
    let n = c.args.node.now in
    let mask = (out-TrieNode g.row.K.Denot g.row.V.Denot n).mask in
    let other : (c.loop-child.seen == mask) ≡ false = search rules in
    sym other ∙ sym (tests_end c.deref-child-items.result.now c.loop-child.child-index c.loop-child-test.false g.K.TrieKey.encoding (c.args.prefix.now ++ fragment_of n) c.loop-child.low c.loop-child.seen mask) ∙ c.loop-child.invariant.1

pub returns-clause-sound : goal.returns-clause-sound
returns-clause-sound g t c =
    let n = c.args.node.now in
    let mask = (out-TrieNode g.row.K.Denot g.row.V.Denot n).mask in
    let same : (c.loop-child.seen == mask) ≡ true = search rules in
    sym same ∙ sym (tests_end c.deref-child-items.result.now c.loop-child.child-index c.loop-child-test.false g.K.TrieKey.encoding (c.args.prefix.now ++ fragment_of n) c.loop-child.low c.loop-child.seen mask) ∙ c.loop-child.invariant.1

pub returns-clause-count : goal.returns-clause-count
returns-clause-count g t c = omega (arith, c.loop-child.invariant.0, pairs_end c.deref-child-items.result.now c.loop-child.child-index c.loop-child-test.false)

pub test-requires : goal.test-requires
test-requires g t c =
    let n = c.args.node.now in
    let m = c.deref-in-loop-child-2.result.now in
    let items = c.deref-child-items.ensures.value in
    let i = c.loop-child.child-index in
    let b = c.child-item.result in
    let lt : i < length (out-TrieNode g.row.K.Denot g.row.V.Denot n).children.items = subst (λ xs. i < length xs) items c.loop-child-test.true in
    let at = ap (λ xs. get_or xs i b) (sym items) ∙ sym c.child-item.is in
    let nodes : nodes_in (tree_of m).children < nodes_in (tree_of n).children = subst (λ k. nodes_in (tree_of k).children < nodes_in (tree_of n).children) (sym c.deref-in-loop-child-2.ensures) (child_is_smaller n i b lt at).0 in
    let pairs : pair_count_of m ≤ pair_count_of n = subst (λ k. pair_count_of k ≤ pair_count_of n) (sym c.deref-in-loop-child-2.ensures) (child_pairs n i b lt at) in
    λ κs l. (omega (arith, c.decreases, nodes), (l.0, (l.1, omega (arith, pairs, c.requires))))

pub returns-then-len-eq0-clause-sound : goal.returns-then-len-eq0-clause-sound
returns-then-len-eq0-clause-sound g t c =
    let b = c.child-item.result in
    let e = g.K.TrieKey.encoding in
    let p = c.args.prefix.now ++ fragment_of c.args.node.now in
    let mask = (out-TrieNode g.row.K.Denot g.row.V.Denot c.args.node.now).mask in
    let none : length (fragment_of b.value) ≡ 0 = ap (λ k. length (fragment_of k)) (sym c.deref.ensures) ∙ sym c.len.ensures ∙ c.if-len-eq0.true in
    false_by_start c.deref-child-items.result.now c.loop-child.child-index b c.loop-child-test.true c.child-item.is e p c.loop-child.low c.loop-child.seen mask _ c.loop-child.invariant.1 (starts-empty c.loop-child.low (fragment_of b.value) none)

pub returns-then-nibble-low-clause-sound : goal.returns-then-nibble-low-clause-sound
returns-then-nibble-low-clause-sound g t c =
    let b = c.child-item.result in
    let e = g.K.TrieKey.encoding in
    let p = c.args.prefix.now ++ fragment_of c.args.node.now in
    let mask = (out-TrieNode g.row.K.Denot g.row.V.Denot c.args.node.now).mask in
    let y = c.get-nibble.ensures.value ∙ ap (λ k. first (fragment_of k)) c.deref-in-loop-child.ensures in
    false_by_start c.deref-child-items.result.now c.loop-child.child-index b c.loop-child-test.true c.child-item.is e p c.loop-child.low c.loop-child.seen mask _ c.loop-child.invariant.1
    (starts-below c.loop-child.low c.get-nibble.result (fragment_of b.value) y c.if-nibble-low.true)

pub returns-then-not-sound-clause-sound : goal.returns-then-not-sound-clause-sound
returns-then-not-sound-clause-sound g t c =
    let b = c.child-item.result in
    let e = g.K.TrieKey.encoding in
    let p = c.args.prefix.now ++ fragment_of c.args.node.now in
    let mask = (out-TrieNode g.row.K.Denot g.row.V.Denot c.args.node.now).mask in
    let made : c.in_ok-path.path ≡ p = c.in_ok-path.ensures.made in
    let unsound : c.in_ok-sound.sound ≡ false = search rules in
    let own : test_of e p b.value ≡ false = ap (λ k. test_of e p k) (sym c.deref-in-loop-child-2.ensures) ∙ ap (λ q. test_of e q c.deref-in-loop-child-2.result.now) (sym made) ∙ sym c.in_ok-sound.ensures.sound ∙ unsound in
    false_by_child c.deref-child-items.result.now c.loop-child.child-index b c.loop-child-test.true c.child-item.is e p c.loop-child.low c.loop-child.seen mask _ c.loop-child.invariant.1 own

pub loop-child-preserved : goal.loop-child-preserved
loop-child-preserved g t c =
    let b = c.child-item.result in
    let e = g.K.TrieKey.encoding in
    let p = c.args.prefix.now ++ fragment_of c.args.node.now in
    let mask = (out-TrieNode g.row.K.Denot g.row.V.Denot c.args.node.now).mask in
    let items = c.deref-child-items.result.now in
    let i = c.loop-child.child-index in
    let made : c.in_ok-path.path ≡ p = c.in_ok-path.ensures.made in
    let sound : c.in_ok-sound.sound ≡ true = search rules in
    let own : test_of e p b.value ≡ true = ap (λ k. test_of e p k) (sym c.deref-in-loop-child-2.ensures) ∙ ap (λ q. test_of e q c.deref-in-loop-child-2.result.now) (sym made) ∙ sym c.in_ok-sound.ensures.sound ∙ sound in
    let size : c.in_ok-sound.size ≡ pair_count_of b.value = c.in_ok-sound.ensures.count ∙ ap (λ s. cond s (pair_count_of c.deref-in-loop-child-2.result.now) 0) sound ∙ ap (λ k. pair_count_of k) c.deref-in-loop-child-2.ensures in
    let y = c.get-nibble.ensures.value ∙ ap (λ k. first (fragment_of k)) c.deref-in-loop-child.ensures in
    let some : 0 < length (fragment_of b.value) = (let l = ap (λ k. length (fragment_of k)) c.deref.ensures in omega (arith, l, c.len.ensures, c.if-len-eq0.false)) in
    let next = next_pairs items i b c.loop-child-test.true c.child-item.is in (
      omega (arith, c.loop-child.invariant.0, next, size),
      test_goes_on items i b c.loop-child-test.true c.child-item.is e p c.loop-child.low c.loop-child.seen mask _ c.loop-child.invariant.1 c.get-nibble.result y
          (starts-in_order c.loop-child.low c.get-nibble.result (fragment_of b.value) some y (omega (arith, c.if-nibble-low.false)) c.get-nibble.ensures.nibble) own,
    )
