use Rattle.nibble_map.proofs.MapLemmas.Values.{with_value-absent, with_value-stored, get-with_value, get-with_value_elsewhere, with_same_lists, len-with_value}
use Rattle.nibble_map.proofs.map_laws.one_value_changes.Goals as goal

pub returns : goal.returns
returns g c = record { absent = with_value-absent; stored = with_value-stored; here = get-with_value; elsewhere = get-with_value_elsewhere; same_lists = with_same_lists; len = len-with_value }
