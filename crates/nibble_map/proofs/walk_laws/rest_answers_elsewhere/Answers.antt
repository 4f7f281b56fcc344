use Rattle.nibble_map.proofs.MapLemmas.Walks.{get-rest_below, get-rest_elsewhere}
use Rattle.nibble_map.proofs.walk_laws.rest_answers_elsewhere.Goals as goal

pub returns : goal.returns
returns g c = record { below = get-rest_below; elsewhere = get-rest_elsewhere }
