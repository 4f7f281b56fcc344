use Rattle.nibble_map.proofs.TreeLemmas.Walked.{tree_compared}
use Rattle.nibble_map.proofs.tree_laws.count_is_compared.Goals as goal

pub returns : goal.returns
returns g c = tree_compared
