use Rattle.std.proofs.Common.{arith}
use Rattle.radix_nodes.proofs.EditLemmas.KeyParts.{agrees_at_one, agrees_from_depth}
use Rattle.radix_nodes.proofs.search.step.agreed.Goals as goal

pub returns-then-len-eq1-clause-agrees : goal.returns-then-len-eq1-clause-agrees
returns-then-len-eq1-clause-agrees c =
    agrees_at_one c.args.fragment.now c.args.list.now c.args.depth c.requires.depth (omega (arith, c.if-len-eq1.true, c.len.ensures)) c.requires.start

pub returns-clause-agrees : goal.returns-clause-agrees
returns-clause-agrees c =
    let e = c.compare.ensures in
    agrees_from_depth c.args.fragment.now c.args.list.now c.args.depth c.compare.result.same c.compare.result.compared (omega (arith, c.requires.depth)) e.within e.inside e.same e.apart e.ended e.parted
