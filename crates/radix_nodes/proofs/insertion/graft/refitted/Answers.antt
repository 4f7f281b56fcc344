use Rattle.std.proofs.Common.{◌∙◌, ap}
use Rattle.masked_tree.specs.Edits.{with_fragment}
use Rattle.radix_nodes.specs.Nodes.{tree_of}
use Rattle.radix_nodes.proofs.NodeLemmas.Nodes.{tree_of-written_fragment}
use Rattle.radix_nodes.proofs.insertion.graft.refitted.Goals as goal

pub returns : goal.returns
returns g c = tree_of-written_fragment c.deref_mut.result.now c.args.fragment ∙ ap (λ m. with_fragment c.args.fragment (tree_of m)) c.deref_mut.ensures.value
