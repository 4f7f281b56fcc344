use Rattle.radix_nodes.specs.Nodes.{tree_of}
use Rattle.radix_nodes.proofs.EditLemmas.Branches.{branch_root}
use Rattle.radix_nodes.proofs.removal.cut_child.cut_root_child.Goals as goal

pub returns-clause-cut : goal.returns-clause-cut
returns-clause-cut g c =
    let u = c.unlink-top in
    branch_root c.args.root.now u.result.value c.args.i c.requires.placed u.ensures.child u.ensures.nibble (tree_of u.new.node) u.ensures.tree
