use Rattle.std.proofs.Common.{◌<◌, ◌∙◌, ap, sym, subst, arith, length}
use Rattle.masked_tree.specs.Same.{IsCopy}
use Rattle.nibble_map.specs.Trees.{first}
use Rattle.masked_tree.specs.Turned.{in_half, turned_tree}
use Rattle.radix_nodes.specs.Copies.{IsKeyValueCopy}
use Rattle.radix_nodes.specs.Nodes.{tree_of, fragment_of, out_of}
use Rattle.radix_nodes.proofs.CopyLemmas.Turned.{half_with_child, half_without_child, none_pushed, all_pushed}
use Rattle.radix_nodes.proofs.CopyLemmas.Copies.{length-no_children}
use Rattle.radix_nodes.proofs.EditLemmas.Insertion.{boxed_child_is_placed}
use Rattle.radix_nodes.proofs.EditLemmas.KeyParts.{length_some}
use Rattle.radix_nodes.proofs.whole.ascending.push_half.Goals.{then-is_in_half+in_ok-copy+in_ok-new+in_ok-push, else-is_in_half}
use Rattle.radix_nodes.proofs.whole.ascending.push_half.Goals as goal

pub loop-i-init : goal.loop-i-init
loop-i-init g c = λ k h. none_pushed (IsKeyValueCopy g.L.CopyOf.is_copy g.V.Clone.is_clone) k _ h

pub get-requires : goal.get-requires
get-requires g c =
    let n = c.args.node.now in
    let b = c.index-child.result.now in
    let o = (out_of n).children.ok.0 in
    let child = boxed_child_is_placed n c.loop-i.i b c.requires (omega (arith, o)) (sym c.index-child.ensures) in
    subst (λ m. 0 < length (fragment_of m)) (sym c.deref.ensures) (length_some (fragment_of b.value) child.0)

pub turned_child-requires : goal.turned_child-requires
turned_child-requires g c =
    let n = c.args.node.now in
    let b = c.index-child.result.now in
    let o = (out_of n).children.ok.0 in
    let child = boxed_child_is_placed n c.loop-i.i b c.requires (omega (arith, o)) (sym c.index-child.ensures) in
    subst (λ m. 0 < length (fragment_of m)) (sym c.deref-then-is_in_half.ensures) (length_some (fragment_of b.value) child.0)

-- Without children nothing that takes memory is called.
pub returns-in_err-copy-clause-inline : goal.returns-in_err-copy-clause-inline
returns-in_err-copy-clause-inline g c = λ k.
    let xs = (out_of c.args.node.now).children in let e = length-no_children c.args.node.now k in absurd (omega (arith, e, xs.ok.0))

pub returns-in_err-new-clause-inline : goal.returns-in_err-new-clause-inline
returns-in_err-new-clause-inline g c = λ k.
    let xs = (out_of c.args.node.now).children in let e = length-no_children c.args.node.now k in absurd (omega (arith, e, xs.ok.0))

pub returns-in_err-push-clause-inline : goal.returns-in_err-push-clause-inline
returns-in_err-push-clause-inline g c = λ k.
    let xs = (out_of c.args.node.now).children in let e = length-no_children c.args.node.now k in absurd (omega (arith, e, xs.ok.0))

pub loop-i-preserved : goal.loop-i-preserved
loop-i-preserved g c = λ k h.
    let R = IsKeyValueCopy g.L.CopyOf.is_copy g.V.Clone.is_clone in
    let xs = (out_of c.args.node.now).children in
    let x = c.index-child.result.now in
    let start = ap (in_half c.args.high) (sym (c.get.ensures.value ∙ ap (λ m. first (fragment_of m)) c.deref.ensures)) ∙ sym c.is_in_half.ensures in
    let within : c.loop-i.i < length xs.items = omega (arith, xs.ok.0) in
    elim c.if-is_in_half.branch [
      | then-is_in_half+in_ok-copy+in_ok-new+in_ok-push w ↦
          let copy = subst (λ n. IsCopy R (turned_tree (tree_of n)) (tree_of w.in_ok-copy.copy)) w.deref-then-is_in_half.ensures w.in_ok-copy.ensures in
          half_with_child c.args.high xs.items c.loop-i.i x within c.index-child.ensures R k c.loop-i.copies.items (c.loop-i.invariant k h) c.if-is_in_half.copies.items w.in_ok-new.field-0
          (start ∙ w.if-is_in_half.true) (subst (λ n. IsCopy R (turned_tree (tree_of x.value)) (tree_of n)) (sym w.in_ok-new.ensures.ok) copy) (ap (λ v. v.items) w.copies-is ∙ w.in_ok-push.ensures.items)
      | else-is_in_half w ↦
          half_without_child c.args.high xs.items c.loop-i.i x within c.index-child.ensures R k c.loop-i.copies.items (c.loop-i.invariant k h) c.if-is_in_half.copies.items
          (start ∙ w.if-is_in_half.false) (ap (λ v. v.items) w.copies-is)
    ]

pub returns-clause-pushed : goal.returns-clause-pushed
returns-clause-pushed g c = λ k h.
    let xs = (out_of c.args.node.now).children in
    all_pushed (IsKeyValueCopy g.L.CopyOf.is_copy g.V.Clone.is_clone) c.args.node.now c.args.high c.loop-i.i k _ (omega (arith, xs.ok.0)) (c.loop-i.invariant k h)
