use Rattle.frozen_networks.proofs.MapLemmas.{map_again, map_in_order, rows_again, rows_stored}
use Rattle.frozen_networks.proofs.laws.rows_and_maps_go_back.Goals as goal

pub returns : goal.returns
returns g c = record { rows = rows_again; map = map_again; in_order = map_in_order; stored = rows_stored }
