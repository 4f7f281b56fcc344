use Rattle.nibble_map.proofs.TreeLemmas.OneTree.{has_tree, nodes-canonical}
use Rattle.nibble_map.proofs.canonical_laws.each_map_has_one_tree.Goals as goal

pub returns : goal.returns
returns g c = record { one = has_tree; only = nodes-canonical }
