use Rattle.keyed_maps.proofs.NearestLemmas as nearest
use Rattle.keyed_maps.proofs.map_laws.longest_match_is_given.Goals as goal

pub returns : goal.returns
returns g c =
    let enc = g.M.PrefixMap.encoding in
    let m = g.M.PrefixMap.map c.args.map in
    let stored = c.keys_stand_at_their_encodings.ensures.stored in
    let e = g.M.PrefixMap.list c.args.key.now in
    record {
      longest = nearest.get_nearest enc m stored e;
      none = nearest.nearest_none enc m e;
    }
