use Rattle.keyed_maps.proofs.NearestLemmas as nearest
use Rattle.keyed_maps.proofs.nearest_laws.keyed_maps_follow_nearest.Goals as goal

pub returns : goal.returns
returns g c =
    let enc = g.K.TrieKey.encoding in
    let m = c.args.trie.now in
    record {
      get_nearest = nearest.get_nearest enc m c.keys_stand_at_their_encodings.ensures.stored;
      nearest_none = nearest.nearest_none enc m;
    }
