use Rattle.std.proofs.Common.{◌≡◌, drop}
use Rattle.radix_nodes.specs.Nodes.{out_of}
use Rattle.radix_nodes.specs.SameValues.{same_values}
use Rattle.radix_nodes.proofs.CopyLemmas.Same.{same_boxes}
use Rattle.radix_nodes.proofs.whole.same.+same.Given as goal

-- what is left of the children decides
abbrev pub invariant-loop-i : goal.invariant-loop-i
invariant-loop-i g l =
    let eq = same_values {K = g.row.K.Denot} g.V.PartialEq.eq in
    let xs = (out_of l.left).children.items in
    let ys = (out_of l.right).children.items in
    same_boxes eq xs ys ≡ same_boxes eq (drop l.i xs) (drop l.i ys)
