use Rattle.std.proofs.Common.{None, ap, sym, subst, ◌∙◌}
use Rattle.std.specs.List.{slice_get}
use Rattle.masked_tree.specs.Tree.{IsFullBelow}
use Rattle.radix_nodes.specs.Nodes.{children_of, tree_of}
use Rattle.radix_nodes.specs.Pairs.{pairs_in}
use Rattle.radix_nodes.proofs.EditLemmas.Removal.{children_of-no_boxes}
use Rattle.radix_trie.proofs.WalkLemmas.Ends.{first_child_full, first_in_child, no_first}
use Rattle.radix_trie.proofs.WalkLemmas.Rows.{children_of-row, first_own}
use Rattle.radix_trie.proofs.iter.first_last.first_pair.Goals as goal

pub returns-in_err-child : goal.returns-in_err-child
returns-in_err-child g c =
    let t = tree_of c.loop-pair.at.now in
    let end = sym (children_of-row c.loop-pair.at.now _ c.deref.ensures.value) ∙ children_of-no_boxes _ c.in_err-child.ensures.cases in
    rw c.from_residual.ensures (no_first t end (sym (first_own None t.pair c.in_default.ensures)) ∙ c.loop-pair.invariant.same)

pub loop-pair-preserved : goal.loop-pair-preserved
loop-pair-preserved g c =
    let t = tree_of c.loop-pair.at.now in
    let u = tree_of c.in_ok-child.child.now.value in
    let others = children_of c.in_ok-child.field-0-1.now in
    let is = sym (children_of-row c.loop-pair.at.now _ c.deref.ensures.value) ∙ ap children_of c.in_ok-child.ensures.cases.0 in
    record {
      full = subst (λ n. IsFullBelow (tree_of n)) (sym c.deref-at.ensures) (first_child_full t c.loop-pair.invariant.full u others is);
      same = ap (λ n. slice_get (pairs_in (tree_of n)) 0) c.deref-at.ensures
          ∙ sym (first_in_child t c.loop-pair.invariant.full u others is (sym (first_own None t.pair c.in_default.ensures))) ∙ c.loop-pair.invariant.same;
    }
