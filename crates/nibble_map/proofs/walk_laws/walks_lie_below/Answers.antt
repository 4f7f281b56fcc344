use Rattle.nibble_map.specs.Maps.{below}
use Rattle.nibble_map.proofs.MapLemmas.Edits.{keys_list_stored}
use Rattle.nibble_map.proofs.MapLemmas.Walks.{Has-walk, Each-walk}
use Rattle.nibble_map.proofs.walk_laws.walks_lie_below.Goals as goal

pub returns : goal.returns
returns g c = record { exactly = Has-walk; prefix = Each-walk; rising = λ m p. (keys_list_stored (below m p)).rising }
