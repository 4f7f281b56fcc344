use Rattle.keyed_maps.proofs.PartLemmas as parts
use Rattle.keyed_maps.proofs.part_laws.keyed_maps_follow_parts.Goals as goal

pub returns : goal.returns
returns g c =
    let enc = g.K.TrieKey.encoding in
    record {
      get_below_inside = parts.get_below_inside enc;
      get_below_outside = parts.get_below_outside enc;
      get_rest_inside = parts.get_rest_inside enc;
      get_rest_outside = parts.get_rest_outside enc;
    }
