use Rattle.keyed_maps.proofs.PartLemmas as parts
use Rattle.keyed_maps.proofs.part_laws.keyed_maps_follow_tries.Goals as goal

pub returns : goal.returns
returns g c =
    let enc = g.K.TrieKey.encoding in
    let is = g.K.TrieKey.is_value in
    let eq = g.K.PartialEq.eq in
    let tells = g.met.K.TrieKey.distinct in
    record {
      get_merged = parts.get_merged enc c.args.part.now c.keys_stand_at_their_encodings.ensures.stored;
      get_extended_last = parts.get_extended_last enc is eq tells;
      get_extended_other = parts.get_extended_other enc is eq tells;
    }
