use Rattle.std.proofs.Common.{refl}
use Rattle.nibble_map.specs.Computed.{points, prefixes}
use Rattle.nibble_map.proofs.ComputedLemmas.Points.{points_list, point_by_test, is_point-point}
use Rattle.nibble_map.proofs.ComputedLemmas.Prefixes.{prefixes_list}
use Rattle.nibble_map.proofs.query_laws.computed_points.Goals as goal

pub returns : goal.returns
returns g c = record {
  points = points_list;
  prefixes = prefixes_list;
  nodes = λ m. record { list = points m; lists = points_list m; length_is = refl };
  nibbles = λ m. record { list = prefixes m; lists = prefixes_list m; length_is = refl };
  is_point = λ m p. (is_point-point m p, point_by_test m p);
}
