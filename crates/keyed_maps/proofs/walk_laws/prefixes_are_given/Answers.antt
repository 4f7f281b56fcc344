use Rattle.keyed_maps.proofs.WalkLemmas as walks
use Rattle.keyed_maps.proofs.walk_laws.prefixes_are_given.Goals as goal

pub returns : goal.returns
returns g c =
    let enc = g.K.TrieKey.encoding in
    let is = g.K.TrieKey.is_value in
    let eq = g.K.PartialEq.eq in
    let tells = g.met.K.TrieKey.distinct in
    let at = walks.placed enc is in
    record {
      given = λ m keyed e. walks.given_above enc m (at m keyed) e is eq keyed tells;
      begins = λ m keyed e. walks.begins_above enc m (at m keyed) e;
      has_value = λ m keyed e. walks.value_above enc m (at m keyed) e;
    }
