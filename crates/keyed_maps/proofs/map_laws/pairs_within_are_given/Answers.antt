use Rattle.radix_trie.specs.Views.{encoded_bound}
use Rattle.keyed_maps.proofs.WalkLemmas as walks
use Rattle.keyed_maps.proofs.map_laws.pairs_within_are_given.Goals as goal

pub returns : goal.returns
returns g c =
    let enc = g.M.PrefixMap.encoding in
    let m = g.M.PrefixMap.map c.args.map in
    let stored = c.keys_stand_at_their_encodings.ensures.stored in
    let low = encoded_bound g.M.PrefixMap.list (g.R.RangeBounds.start_bound c.args.range.now) in
    let high = encoded_bound g.M.PrefixMap.list (g.R.RangeBounds.end_bound c.args.range.now) in
    record {
      given = walks.alike_within enc m stored low high;
      within = walks.inside_within enc m stored low high;
      has_value = walks.value_within enc m stored low high;
    }
