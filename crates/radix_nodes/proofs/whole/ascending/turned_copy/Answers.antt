use Rattle.std.proofs.Common.{arith, true}
use Rattle.masked_tree.specs.Tree.{none}
use Rattle.masked_tree.specs.Turned.{turned_half}
use Rattle.nibble_map.proofs.MapLemmas.SameTests.{anything_of_false}
use Rattle.radix_nodes.specs.Copies.{IsKeyValueCopy}
use Rattle.radix_nodes.specs.Nodes.{tree_of, out_of}
use Rattle.radix_nodes.proofs.CopyLemmas.Turned.{turned_root_is_copied, nothing_copied}
use Rattle.radix_nodes.proofs.CopyLemmas.Copies.{length-no_children, unboxed-no_pair}
use Rattle.radix_nodes.proofs.whole.ascending.turned_copy.Goals as goal

pub returns-in_err-children-clause-inline : goal.returns-in_err-children-clause-inline
returns-in_err-children-clause-inline g c = λ p k s.
    let xs = (out_of c.args.root.now).children in
    let e = length-no_children c.args.root.now k in
    anything_of_false (c.in_err-children.ensures.succeeds (omega (arith, e, xs.ok.0, c.len.ensures)))

pub returns-in_err-copied_pair-clause-inline : goal.returns-in_err-copied_pair-clause-inline
returns-in_err-copied_pair-clause-inline g c = λ p k s. anything_of_false (c.in_err-copied_pair.ensures.inline (unboxed-no_pair c.args.root.now p))

pub returns-clause-copy : goal.returns-clause-copy
returns-clause-copy g c =
    let R = IsKeyValueCopy g.L.CopyOf.is_copy g.V.Clone.is_clone in
    let children = (tree_of c.args.root.now).children in
    let upper = c.in_ok-push_half.ensures.pushed none (nothing_copied R c.in_ok-children.children.items c.in_ok-children.ensures.items) in
    turned_root_is_copied R c.args.root.now _ c.in_ok-clone.ensures.ok c.rotate_left.ensures c.in_ok-copied_pair.ensures.copy (c.in_ok-push_half-2.ensures.pushed (turned_half true children) upper)
