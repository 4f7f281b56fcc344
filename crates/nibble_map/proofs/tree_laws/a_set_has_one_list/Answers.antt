use Rattle.nibble_map.specs.Points.{IsPoint, IsSomePrefix}
use Rattle.nibble_map.specs.Stored.{IsStored}
use Rattle.nibble_map.proofs.ListLemmas.Unique.{Lists-unique, Counts-unique}
use Rattle.nibble_map.proofs.tree_laws.a_set_has_one_list.Goals as goal

pub returns : goal.returns
returns g c = record { points = λ m. Lists-unique (IsPoint (IsStored m)); prefixes = λ m. Counts-unique (IsSomePrefix (IsStored m)) }
