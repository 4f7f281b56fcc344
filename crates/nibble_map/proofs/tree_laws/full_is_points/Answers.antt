use Rattle.nibble_map.proofs.TreeLemmas.Canonical.{full_iff_points}
use Rattle.nibble_map.proofs.tree_laws.full_is_points.Goals as goal

pub returns : goal.returns
returns g c = full_iff_points
