use Rattle.std.proofs.Common.{◌-◌, length, ap, sym, subst, ◌∙◌}
use Rattle.std.specs.List.{slice_get}
use Rattle.masked_tree.specs.Tree.{IsFullBelow}
use Rattle.radix_nodes.specs.Nodes.{children_of, tree_of}
use Rattle.radix_nodes.specs.Pairs.{pairs_in}
use Rattle.radix_nodes.proofs.EditLemmas.Removal.{children_of-no_boxes}
use Rattle.radix_trie.proofs.WalkLemmas.Ends.{last_child_full, last_in_child, only_own_pair}
use Rattle.radix_trie.proofs.WalkLemmas.Rows.{children_of-row}
use Rattle.radix_trie.proofs.iter.first_last.last_pair.Goals as goal

pub loop-child-preserved : goal.loop-child-preserved
loop-child-preserved g c =
    let is = sym (children_of-row c.loop-child.at.now _ c.deref.ensures.value) ∙ ap children_of c.in-Some.ensures.cases.0 in
    record {
      full = subst (λ n. IsFullBelow (tree_of n)) (sym c.deref-at.ensures) (last_child_full _ _ (tree_of c.loop-child.at.now) c.loop-child.invariant.full is);
      same = ap (λ n. slice_get (pairs_in (tree_of n)) (length (pairs_in (tree_of n)) - 1)) c.deref-at.ensures
          ∙ sym (last_in_child _ _ (tree_of c.loop-child.at.now) c.loop-child.invariant.full is) ∙ c.loop-child.invariant.same;
    }

pub returns : goal.returns
returns g c =
    c.pair.ensures
    ∙ only_own_pair (tree_of c.loop-child.at.now) (sym (children_of-row c.loop-child.at.now _ c.deref.ensures.value) ∙ children_of-no_boxes _ c.in_default.ensures.cases)
    ∙ c.loop-child.invariant.same
