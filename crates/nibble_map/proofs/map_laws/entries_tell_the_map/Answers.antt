use Rattle.nibble_map.proofs.MapLemmas.Bridge.{from_sorted-nil}
use Rattle.nibble_map.proofs.MapLemmas.Edits.{keys_list_stored, stored_by_entries, walk-by_entries}
use Rattle.nibble_map.proofs.map_laws.entries_tell_the_map.Goals as goal

pub returns : goal.returns
returns g c = record { keys = keys_list_stored; stored = λ m e. ((stored_by_entries m e).1, (stored_by_entries m e).0); empty = from_sorted-nil _; walk = walk-by_entries }
