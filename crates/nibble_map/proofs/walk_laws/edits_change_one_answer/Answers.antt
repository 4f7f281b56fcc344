use Rattle.nibble_map.proofs.MapLemmas.Walks.{get-inserted, get-inserted_elsewhere, get-removed, get-removed_elsewhere}
use Rattle.nibble_map.proofs.walk_laws.edits_change_one_answer.Goals as goal

pub returns : goal.returns
returns g c = record { inserted = get-inserted; insert_elsewhere = get-inserted_elsewhere; removed = get-removed; remove_elsewhere = get-removed_elsewhere }
