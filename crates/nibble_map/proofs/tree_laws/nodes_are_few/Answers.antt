use Rattle.nibble_map.proofs.TreeLemmas.Sizes.{nodes_bound}
use Rattle.nibble_map.proofs.tree_laws.nodes_are_few.Goals as goal

pub returns : goal.returns
returns g c = nodes_bound
