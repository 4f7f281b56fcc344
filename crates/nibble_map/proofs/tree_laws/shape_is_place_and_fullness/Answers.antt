use Rattle.nibble_map.proofs.TreeLemmas.Full.{shaped_by_fullness}
use Rattle.nibble_map.proofs.TreeLemmas.OneTree.{shaped_parts}
use Rattle.nibble_map.proofs.tree_laws.shape_is_place_and_fullness.Goals as goal

pub returns : goal.returns
returns g c = record { parts = shaped_parts; whole = shaped_by_fullness }
