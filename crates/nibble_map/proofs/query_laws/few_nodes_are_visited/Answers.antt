use Rattle.nibble_map.specs.Maps.{IsPoint}
use Rattle.nibble_map.proofs.PointLemmas.Visited.{few_prefixes, prefixes_are_fewer}
use Rattle.nibble_map.proofs.query_laws.few_nodes_are_visited.Goals as goal

pub returns : goal.returns
returns g c = record { nibbles = λ m. few_prefixes (IsPoint m); points = λ m. prefixes_are_fewer (IsPoint m) }
