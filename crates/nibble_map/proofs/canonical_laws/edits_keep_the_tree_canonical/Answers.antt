use Rattle.nibble_map.proofs.TreeLemmas.OneTree.{canonical_inserted, canonical_removed, nodes-undone}
use Rattle.nibble_map.proofs.canonical_laws.edits_keep_the_tree_canonical.Goals as goal

pub returns : goal.returns
returns g c = record { inserted = canonical_inserted; removed = canonical_removed; undone = nodes-undone }
