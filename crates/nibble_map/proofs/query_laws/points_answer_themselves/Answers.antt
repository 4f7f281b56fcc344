use Rattle.nibble_map.proofs.PointLemmas.OneChild.{own_ancestor, own_descendant}
use Rattle.nibble_map.proofs.query_laws.points_answer_themselves.Goals as goal

pub returns : goal.returns
returns g c = record { raw_ancestor = λ m. own_ancestor _; raw_descendant = λ m. own_descendant _ }
