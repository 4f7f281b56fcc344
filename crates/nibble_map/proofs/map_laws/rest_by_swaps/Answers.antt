use Rattle.nibble_map.proofs.MapLemmas.Without.{from_sorted-run_cut}
use Rattle.nibble_map.proofs.map_laws.rest_by_swaps.Goals as goal

pub returns : goal.returns
returns g c = from_sorted-run_cut
