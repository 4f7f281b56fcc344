use Rattle.nibble_map.proofs.TreeLemmas.OneTree.{paths_and_fragments-canonical}
use Rattle.nibble_map.proofs.canonical_laws.stored_lists_shape_the_tree.Goals as goal

pub returns : goal.returns
returns g c = paths_and_fragments-canonical
