use Rattle.nibble_map.proofs.MapLemmas.Below.{below-insert_inside, below-insert_outside, below-remove, below-below, get-below}
use Rattle.nibble_map.proofs.map_laws.edits_below_a_path.Goals as goal

pub returns : goal.returns
returns g c = record { insert_inside = below-insert_inside; insert_outside = below-insert_outside; remove = below-remove; twice = below-below; get = get-below }
