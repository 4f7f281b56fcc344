use Rattle.nibble_map.proofs.TreeLemmas.Points.{tree_points}
use Rattle.nibble_map.proofs.tree_laws.paths_are_points.Goals as goal

pub returns : goal.returns
returns g c = tree_points
