use Rattle.nibble_map.proofs.TreeLemmas.Canonical.{local_canonical, canonical_local}
use Rattle.nibble_map.proofs.tree_laws.canonical_is_local.Goals as goal

pub returns : goal.returns
returns g c = record { to = local_canonical; from = canonical_local }
