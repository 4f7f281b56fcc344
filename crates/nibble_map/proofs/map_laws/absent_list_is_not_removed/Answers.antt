use Rattle.std.proofs.lemmas.Cmp.{nat_list_cmp_total}
use Rattle.nibble_map.proofs.MapLemmas.Bridge.{remove-absent}
use Rattle.nibble_map.proofs.ListLemmas.Sorted.{tied_lists_equal}
use Rattle.nibble_map.proofs.map_laws.absent_list_is_not_removed.Goals as goal

pub returns : goal.returns
returns g c = remove-absent _ nat_list_cmp_total tied_lists_equal
