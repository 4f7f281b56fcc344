use Rattle.trie_set.proofs.SetLemmas.{get-common_ours, get-joined_ours, get-joined_theirs, stored-common, stored-joined, stored-lacking}
use Rattle.trie_set.proofs.laws.sets_answer_by_both.Goals as goal

pub returns : goal.returns
returns g c = record {
  common = stored-common;
  common_key = get-common_ours;
  lacking = stored-lacking;
  joined = stored-joined;
  joined_key = get-joined_ours;
  other_key = get-joined_theirs;
}
