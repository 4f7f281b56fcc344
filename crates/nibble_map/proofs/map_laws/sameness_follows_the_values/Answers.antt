use Rattle.nibble_map.proofs.MapLemmas.Same.{same_reflexive, same_symmetric, same_transitive, same_by_entries}
use Rattle.nibble_map.proofs.map_laws.sameness_follows_the_values.Goals as goal

pub returns : goal.returns
returns g c = record { reflexive = same_reflexive; symmetric = same_symmetric; transitive = same_transitive; entries = same_by_entries }
