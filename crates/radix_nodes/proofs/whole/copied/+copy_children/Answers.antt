use Rattle.std.proofs.Common.{sym, subst, arith}
use Rattle.masked_tree.specs.Same.{AreChildCopies}
use Rattle.radix_nodes.specs.Copies.{IsKeyValueCopy, IsBareCopy}
use Rattle.radix_nodes.specs.Nodes.{tree_of, children_of, out_of}
use Rattle.radix_nodes.proofs.CopyLemmas.Copies.{done, none_copied, one_more_is_copied, bare_copied, all_are_copied, length-no_children}
use Rattle.radix_nodes.proofs.whole.copied.+copy_children.Goals as goal

pub loop-i-init : goal.loop-i-init
loop-i-init g t c = none_copied (IsKeyValueCopy g.L.CopyOf.is_copy g.V.Clone.is_clone) (out_of c.args.node.now).children.items c.args.copies.now.items c.requires

pub loop-i-preserved : goal.loop-i-preserved
loop-i-preserved g t c =
    let R = IsKeyValueCopy g.L.CopyOf.is_copy g.V.Clone.is_clone in
    let xs = (out_of c.args.node.now).children in
    let x = c.index-child.result.now in
    let ys = c.copy_children-below.new.copies in
    let bare : IsBareCopy R (out_of x.value) (out_of c.deref_mut.result.now) =
    subst (λ n. IsBareCopy R (out_of n) (out_of c.deref_mut.result.now)) c.deref.ensures
    (subst (λ m. IsBareCopy R (out_of c.deref.result.now) (out_of m)) (sym c.deref_mut.ensures.value) c.in_ok-copy.ensures.copy) in
    let below = subst (λ n. AreChildCopies R (tree_of n).children (children_of ys.items)) c.deref-in-loop-i.ensures (done c.copy_children-below.result c.in_ok-push_copy.ensures.below c.copy_children-below.ensures.copy) in
    one_more_is_copied R xs.items c.loop-i.copies.items c.push_copy.new.copies.items c.loop-i.i x _ (omega (arith, xs.ok.0)) c.loop-i.invariant c.index-child.ensures
    (bare_copied R x.value c.deref_mut.result.now ys bare below) c.in_ok-push_copy.ensures.pushed

pub returns-clause-copy : goal.returns-clause-copy
returns-clause-copy g t c =
    let xs = (out_of c.args.node.now).children in
    all_are_copied (IsKeyValueCopy g.L.CopyOf.is_copy g.V.Clone.is_clone) c.args.node.now c.loop-i.copies.items c.loop-i.i (omega (arith, xs.ok.0)) c.loop-i.invariant

-- Without children nothing that takes memory is called.
pub returns-in_err-copy-clause-inline : goal.returns-in_err-copy-clause-inline
returns-in_err-copy-clause-inline g t c = λ k.
    let xs = (out_of c.args.node.now).children in let e = length-no_children c.args.node.now k in absurd (omega (arith, e, xs.ok.0))

pub returns-in_err-push_copy-clause-inline : goal.returns-in_err-push_copy-clause-inline
returns-in_err-push_copy-clause-inline g t c = λ k.
    let xs = (out_of c.args.node.now).children in let e = length-no_children c.args.node.now k in absurd (omega (arith, e, xs.ok.0))
