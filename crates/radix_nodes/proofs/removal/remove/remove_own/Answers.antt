use Rattle.std.proofs.Common.{sym, refl}
use Rattle.radix_nodes.proofs.EditLemmas.Steps.{free_here}
use Rattle.radix_nodes.proofs.EditLemmas.Merging.{tree_of-unpaired, tree_of-unpaired_again}
use Rattle.radix_nodes.proofs.EditLemmas.Removal.{root_pair_cut}
use Rattle.radix_nodes.proofs.removal.remove.remove_own.Goals as goal

pub returns-in-Some : goal.returns-in-Some
returns-in-Some g c =
    let n = c.args.node.now in
    root_pair_cut n c.in-Some.pair _ _ c.in-Some.ensures.was c.requires (tree_of-unpaired n c.take_pair.new.at c.take_pair.ensures.none) refl

pub returns-in-None : goal.returns-in-None
returns-in-None g c =
    let n = c.args.node.now in
    let bare = sym c.in-None.ensures.was in
    (tree_of-unpaired_again n c.take_pair.new.at c.take_pair.ensures.none bare, free_here n c.requires bare)
