use Rattle.nibble_map.proofs.PointLemmas.Descendant.{below-descendant, below-no_descendant}
use Rattle.nibble_map.proofs.query_laws.descendants_hold_all_below.Goals as goal

pub returns : goal.returns
returns g c = record { some = below-descendant; none = below-no_descendant }
