use Rattle.nibble_map.proofs.TreeLemmas.OneTree.{full_is_canonical, canonical_of_entries}
use Rattle.nibble_map.proofs.canonical_laws.full_trees_are_canonical.Goals as goal

pub returns : goal.returns
returns g c = record { full = λ t m s i. full_is_canonical t m i s; shaped = canonical_of_entries }
