use Rattle.nibble_map.proofs.ListLemmas.Parted.{ancestor_unique, longest_unique, raw_descendant_unique, fragment_unique, compared_unique}
use Rattle.nibble_map.proofs.ListLemmas.Unique.{Lists-unique, Counts-unique}
use Rattle.nibble_map.proofs.query_laws.answers_are_unique.Goals as goal

pub returns : goal.returns
returns g c = record {
  ancestor = λ m. ancestor_unique _;
  raw_ancestor = λ m. longest_unique _;
  raw_descendant = λ m. raw_descendant_unique _;
  fragment = λ m. fragment_unique _;
  children = λ m p. Lists-unique _;
  compared = λ m. compared_unique _;
  visited = λ m e. Counts-unique _;
}
