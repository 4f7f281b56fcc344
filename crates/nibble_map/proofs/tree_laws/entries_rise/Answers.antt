use Rattle.nibble_map.proofs.ListLemmas.Unique.{tree_entries_rise}
use Rattle.nibble_map.proofs.tree_laws.entries_rise.Goals as goal

pub returns : goal.returns
returns g c = tree_entries_rise
