use Rattle.std.proofs.Common.{arith}
use Rattle.radix_nodes.specs.Nodes.{out_of}
use Rattle.radix_nodes.proofs.CopyLemmas.Copies.{length-no_children, unboxed-no_pair}
use Rattle.radix_nodes.proofs.whole.copied.copied_alone.Goals as goal
use Rattle.nibble_map.proofs.MapLemmas.SameTests.{anything_of_false}

-- A node without a pair takes memory for its fragment and its children alone.
pub returns-in_err-copied_pair-clause-inline : goal.returns-in_err-copied_pair-clause-inline
returns-in_err-copied_pair-clause-inline g c = λ p k s. anything_of_false (c.in_err-copied_pair.ensures.inline (unboxed-no_pair c.args.node.now p))

-- Without children there is no room to reserve.
pub returns-in_err-with_capacity-clause-inline : goal.returns-in_err-with_capacity-clause-inline
returns-in_err-with_capacity-clause-inline g c = λ p k s.
    let xs = (out_of c.args.node.now).children in
    let e = length-no_children c.args.node.now k in
    anything_of_false (c.in_err-with_capacity.ensures.succeeds (omega (arith, e, xs.ok.0, c.len.ensures)))
