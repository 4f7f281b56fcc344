use Rattle.trie_set.proofs.ValueLemmas.{value-common, value-common_none, value-first_alone, value-joined, value-lacking, value-lacking_stored, value-neither, value-second_alone}
use Rattle.trie_set.proofs.laws.combinations_have_values.Goals as goal

pub returns : goal.returns
returns g c = record {
  union = value-joined;
  intersection = value-common;
  intersection_none = value-common_none;
  difference = value-lacking;
  difference_none = value-lacking_stored;
  first_alone = value-first_alone;
  second_alone = value-second_alone;
  neither = value-neither;
}
