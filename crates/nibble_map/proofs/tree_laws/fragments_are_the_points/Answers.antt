use Rattle.nibble_map.proofs.TreeLemmas.Fragments.{tree_fragments}
use Rattle.nibble_map.proofs.tree_laws.fragments_are_the_points.Goals as goal

pub returns : goal.returns
returns g c = tree_fragments
