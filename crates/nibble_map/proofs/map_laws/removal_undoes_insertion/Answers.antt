use Rattle.nibble_map.proofs.MapLemmas.Values.{remove-inserted}
use Rattle.nibble_map.proofs.map_laws.removal_undoes_insertion.Goals as goal

pub returns : goal.returns
returns g c = remove-inserted
