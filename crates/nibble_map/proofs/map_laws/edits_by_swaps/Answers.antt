use Rattle.nibble_map.proofs.MapLemmas.Edits.{from_sorted-lists_swapped_over, get-lists_swapped_over, from_sorted-lists_swapped_out, get-lists_swapped_out}
use Rattle.nibble_map.proofs.map_laws.edits_by_swaps.Goals as goal

pub returns : goal.returns
returns g c = record { inserted = from_sorted-lists_swapped_over; inserted_over = get-lists_swapped_over; removed = from_sorted-lists_swapped_out; removed_from = get-lists_swapped_out }
