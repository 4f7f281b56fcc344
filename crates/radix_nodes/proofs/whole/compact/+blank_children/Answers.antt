use Rattle.std.proofs.Common.{subst, arith}
use Rattle.radix_nodes.specs.Shapes.{HaveSameShape}
use Rattle.radix_nodes.specs.Nodes.{tree_of, children_of, out_of}
use Rattle.radix_nodes.proofs.CopyLemmas.Copies.{done, length-no_children}
use Rattle.radix_nodes.proofs.CopyLemmas.Moves.{none_shaped, one_more_is_shaped, given_is_shaped, all_are_shaped}
use Rattle.radix_nodes.proofs.whole.compact.+blank_children.Goals as goal

pub loop-i-init : goal.loop-i-init
loop-i-init g t c = none_shaped (out_of c.args.node.now).children.items c.args.blanks.now.items c.requires

pub loop-i-preserved : goal.loop-i-preserved
loop-i-preserved g t c =
    let xs = (out_of c.args.node.now).children in
    let x = c.index-child.result.now in
    let ys = c.blank_children-below.new.blanks in
    let below = subst (λ n. HaveSameShape (tree_of n).children (children_of ys.items)) c.deref-in-loop-i.ensures (done c.blank_children-below.result c.in_ok-push_copy.ensures.below c.blank_children-below.ensures.shape) in
    one_more_is_shaped xs.items c.loop-i.blanks.items c.push_copy.new.copies.items c.loop-i.i x _ (omega (arith, xs.ok.0)) c.loop-i.invariant c.index-child.ensures
    (given_is_shaped (tree_of x.value).children c.deref_mut.result.now ys below) c.in_ok-push_copy.ensures.pushed

pub returns-clause-shape : goal.returns-clause-shape
returns-clause-shape g t c =
    let xs = (out_of c.args.node.now).children in
    all_are_shaped c.args.node.now c.loop-i.blanks.items c.loop-i.i (omega (arith, xs.ok.0)) c.loop-i.invariant

-- Without children nothing that takes memory is called.
pub returns-in_err-blank-clause-inline : goal.returns-in_err-blank-clause-inline
returns-in_err-blank-clause-inline g t c = λ k.
    let xs = (out_of c.args.node.now).children in let e = length-no_children c.args.node.now k in absurd (omega (arith, e, xs.ok.0))

pub returns-in_err-push_copy-clause-inline : goal.returns-in_err-push_copy-clause-inline
returns-in_err-push_copy-clause-inline g t c = λ k.
    let xs = (out_of c.args.node.now).children in let e = length-no_children c.args.node.now k in absurd (omega (arith, e, xs.ok.0))
