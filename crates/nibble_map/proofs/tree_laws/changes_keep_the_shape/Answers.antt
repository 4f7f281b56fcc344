use Rattle.nibble_map.proofs.TreeLemmas.Steps.{tree_inserted, tree_removed}
use Rattle.nibble_map.proofs.tree_laws.changes_keep_the_shape.Goals as goal

pub returns : goal.returns
returns g c = record { set = tree_inserted; cut = tree_removed }
