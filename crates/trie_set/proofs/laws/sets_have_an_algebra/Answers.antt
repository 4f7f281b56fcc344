use Rattle.trie_set.proofs.AlgebraLemmas as algebra
use Rattle.trie_set.proofs.laws.sets_have_an_algebra.Goals as goal

pub returns : goal.returns
returns g c = record {
  counts = algebra.counts;
  common_over = algebra.common_over;
  joined_over = algebra.joined_over;
  common_absorbs = algebra.common_absorbs;
  joined_absorbs = algebra.joined_absorbs;
  lacking_both = algebra.lacking_both;
  lacking_one = algebra.lacking_one;
  parts_joined = algebra.parts_joined;
  common_apart = algebra.common_apart;
  joined_apart = algebra.joined_apart;
}
