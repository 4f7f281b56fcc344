use Rattle.nibble_map.proofs.TreeLemmas.SomePrefixes.{tree_nibbles}
use Rattle.nibble_map.proofs.tree_laws.nibbles_are_prefixes.Goals as goal

pub returns : goal.returns
returns g c = tree_nibbles
