use Rattle.nibble_map.proofs.MapLemmas.Edits.{insert_sets_entry, remove_cuts_entry, set_is_insert, cut_is_remove}
use Rattle.nibble_map.proofs.map_laws.edits_by_entries.Goals as goal

pub returns : goal.returns
returns g c = record { set = insert_sets_entry; cut = remove_cuts_entry; inserted = set_is_insert; removed = cut_is_remove }
