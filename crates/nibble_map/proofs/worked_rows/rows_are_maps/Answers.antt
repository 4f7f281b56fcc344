use Rattle.nibble_map.proofs.MapLemmas.Edits.{entries-insert_all, entries-remove_row}
use Rattle.nibble_map.proofs.worked_rows.rows_are_maps.Goals as goal

pub returns : goal.returns
returns c = record { inserted = entries-insert_all; removed = entries-remove_row }
