use Rattle.std.proofs.Common.{option_map, unwrap_or}
use Rattle.std.specs.FinMap as map
use Rattle.keyed_maps.proofs.KeyLemmas as keyed
use Rattle.keyed_maps.proofs.value_laws.keyed_maps_follow_values.Goals as goal

pub returns : goal.returns
returns g c =
    let enc = g.K.TrieKey.encoding in
    let is = g.K.TrieKey.is_value in
    let eq = g.K.PartialEq.eq in
    let tells = g.met.K.TrieKey.distinct in
    record {
      get_written_same = keyed.get_written_same enc;
      get_written_other = λ m k j w here there differ. keyed.get_written_other enc is eq tells m k j here there differ w;
      written_none = keyed.written_none enc;
      get_filled_same = keyed.get_filled_same enc;
      get_filled_other = λ m k j w here there differ.
          keyed.get_insert_other enc is eq tells m k j here there differ (unwrap_or (option_map (λ p. p.0) (map.get m (enc k))) k, w);
    }
