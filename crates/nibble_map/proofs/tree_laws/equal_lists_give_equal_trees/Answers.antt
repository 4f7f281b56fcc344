use Rattle.nibble_map.proofs.TreeLemmas.Same.{paths_and_fragments-same_stored}
use Rattle.nibble_map.proofs.tree_laws.equal_lists_give_equal_trees.Goals as goal

pub returns : goal.returns
returns g c = paths_and_fragments-same_stored
