use Rattle.std.proofs.Common.{arith}
use Rattle.radix_nodes.proofs.EditLemmas.KeyParts.{agrees_from_depth}
use Rattle.radix_trie.proofs.PathLemmas.Loci.{begins_tells}
use Rattle.radix_trie.proofs.view.inside.begins.Goals as goal

pub returns : goal.returns
returns c =
    let e = c.compare.ensures in
    let a = c.compare.result in
    begins_tells c.args.path.now c.args.list.now a.same a.compared c.len.result c.len.ensures
    (agrees_from_depth c.args.path.now c.args.list.now 0 a.same a.compared (omega arith) e.within e.inside e.same e.apart e.ended e.parted)
