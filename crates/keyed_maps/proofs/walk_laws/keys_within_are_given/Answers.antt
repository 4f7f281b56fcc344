use Rattle.keyed_maps.proofs.WalkLemmas as walks
use Rattle.keyed_maps.proofs.walk_laws.keys_within_are_given.Goals as goal

pub returns : goal.returns
returns g c =
    let enc = g.K.TrieKey.encoding in
    let is = g.K.TrieKey.is_value in
    let eq = g.K.PartialEq.eq in
    let tells = g.met.K.TrieKey.distinct in
    let at = walks.placed enc is in
    record {
      given = λ m keyed low high. walks.given_within enc m (at m keyed) low high is eq keyed tells;
      within = λ m keyed low high. walks.inside_within enc m (at m keyed) low high;
      has_value = λ m keyed low high. walks.value_within enc m (at m keyed) low high;
    }
