use Rattle.std.proofs.Common.{[], ◌∷◌, ◌++◌, ap, subst, sym, ◌∙◌}
use Rattle.masked_tree.specs.Tree.{plain}
use Rattle.nibble_map.specs.Trees.{IsFull}
use Rattle.radix_nodes.specs.Nodes.{tree_of}
use Rattle.radix_nodes.specs.Pairs.{pairs_in_all}
use Rattle.radix_nodes.proofs.NodeLemmas.Pairs.{pairs_of-entries_at}
use Rattle.radix_trie.specs.declared.iter.rows.Frame.{Frame}
use Rattle.radix_trie.specs.Walks.{HasFullRows, left_rows, stacked}
use Rattle.radix_trie.proofs.WalkLemmas.Rows.{children_of-row, first_own}
use Rattle.radix_trie.proofs.iter.cursor.Cursor.over.Goals as goal

pub invariant_of-result : goal.invariant_of-result
invariant_of-result g c =
    let at : Frame g.row.K.Denot g.row.V.Denot = record { own = c.pair.result; row = c.deref.result } in
    subst (λ rs. HasFullRows (left_rows (rs ++ at ∷ []))) (sym c.new.ensures.items)
    (subst (λ k. IsFull (plain k)) (sym (children_of-row c.args.node.now _ c.deref.ensures.value)) c.requires.full, tt)

pub returns : goal.returns
returns g c =
    let at : Frame g.row.K.Denot g.row.V.Denot = record { own = c.pair.result; row = c.deref.result } in
    ap (λ rs. stacked (rs ++ at ∷ [])) c.new.ensures.items
    ∙ (λ i. first_own c.pair.result _ c.pair.ensures i ++ pairs_in_all (children_of-row c.args.node.now _ c.deref.ensures.value i))
    ∙ sym (pairs_of-entries_at [] (tree_of c.args.node.now))
