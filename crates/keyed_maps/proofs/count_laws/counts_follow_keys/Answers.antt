use Rattle.keyed_maps.proofs.KeyLemmas as keyed
use Rattle.keyed_maps.proofs.count_laws.counts_follow_keys.Goals as goal

pub returns : goal.returns
returns g c =
    let enc = g.K.TrieKey.encoding in
    record {
      len_insert_new = keyed.len_insert_new enc;
      len_insert_stored = keyed.len_insert_stored enc;
      len_remove_stored = keyed.len_remove_stored enc;
      remove_none = keyed.remove_none enc;
    }
