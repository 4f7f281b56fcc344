use Rattle.keyed_maps.proofs.WalkLemmas as walks
use Rattle.keyed_maps.proofs.map_laws.pairs_below_are_given.Goals as goal

pub returns : goal.returns
returns g c =
    let enc = g.M.PrefixMap.encoding in
    let m = g.M.PrefixMap.map c.args.map in
    let stored = c.keys_stand_at_their_encodings.ensures.stored in
    let e = g.M.PrefixMap.list c.args.key.now in
    record {
      given = walks.alike_first_page enc m stored e c.args.most;
      begins = walks.begins_first_page enc m stored e c.args.most;
      has_value = walks.value_first_page enc m stored e c.args.most;
    }
