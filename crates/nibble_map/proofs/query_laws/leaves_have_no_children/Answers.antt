use Rattle.nibble_map.proofs.PointLemmas.OneChild.{leaf_has_no_children}
use Rattle.nibble_map.proofs.query_laws.leaves_have_no_children.Goals as goal

pub returns : goal.returns
returns g c = leaf_has_no_children
