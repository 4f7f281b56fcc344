use Rattle.nibble_map.proofs.PointLemmas.Rest.{point_before, point_apart, point_below, some_prefix_before, some_prefix_apart, some_prefix_below}
use Rattle.nibble_map.proofs.map_laws.points_of_the_rest.Goals as goal

pub returns : goal.returns
returns g c = record {
  point_before = point_before;
  point_apart = point_apart;
  point_below = point_below;
  some_prefix_before = some_prefix_before;
  some_prefix_apart = some_prefix_apart;
  some_prefix_below = some_prefix_below;
}
