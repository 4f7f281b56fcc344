use Rattle.std.proofs.Common.{◌∙◌, ap}
use Rattle.masked_tree.specs.Edits.{with_fragment}
use Rattle.radix_nodes.specs.Nodes.{tree_of}
use Rattle.radix_nodes.proofs.NodeLemmas.Nodes.{tree_of-written_fragment}
use Rattle.radix_nodes.proofs.insertion.graft_root.take_fragment.Goals as goal

pub returns-clause-tree : goal.returns-clause-tree
returns-clause-tree g c = tree_of-written_fragment c.args.node.now c.replace.new.dest ∙ ap (λ f. with_fragment f (tree_of c.args.node.now)) (c.replace.ensures.after ∙ c.new.ensures)
