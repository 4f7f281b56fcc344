use Rattle.keyed_maps.proofs.KeyLemmas as keyed
use Rattle.keyed_maps.proofs.edit_laws.keyed_maps_follow_edits.Goals as goal

pub returns : goal.returns
returns g c =
    let enc = g.K.TrieKey.encoding in
    let is = g.K.TrieKey.is_value in
    let eq = g.K.PartialEq.eq in
    let tells = g.met.K.TrieKey.distinct in
    record {
      get_empty = keyed.get_empty enc;
      get_insert_same = keyed.get_insert_same enc;
      get_insert_other = λ m k j v here there differ. keyed.get_insert_other enc is eq tells m k j here there differ (k, v);
      get_remove_same = keyed.get_remove_same enc;
      get_remove_other = keyed.get_remove_other enc is eq tells;
    }
