use Rattle.std.proofs.Common.{arith}
use Rattle.radix_nodes.specs.Nodes.{out_of}
use Rattle.radix_nodes.proofs.CopyLemmas.Copies.{length-no_children}
use Rattle.radix_nodes.proofs.whole.compact.blank_alone.Goals as goal
use Rattle.nibble_map.proofs.MapLemmas.SameTests.{anything_of_false}

-- Without children there is no room to reserve.
pub returns-in_err-children-clause-inline : goal.returns-in_err-children-clause-inline
returns-in_err-children-clause-inline g c = λ k.
    let xs = (out_of c.args.node.now).children in
    let e = length-no_children c.args.node.now k in
    anything_of_false (c.in_err-children.ensures.succeeds (omega (arith, e, xs.ok.0, c.len.ensures)))
