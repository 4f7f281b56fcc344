use Rattle.keyed_maps.proofs.EqualityLemmas as walks
use Rattle.keyed_maps.proofs.count_laws.walks_give_each_key.Goals as goal

pub returns : goal.returns
returns g c =
    let enc = g.K.TrieKey.encoding in
    let is = g.K.TrieKey.is_value in
    let eq = g.K.PartialEq.eq in
    record {
      given = λ m keyed. walks.given enc is eq m keyed g.met.K.TrieKey.distinct;
      has_value = λ m keyed. walks.has_value enc is eq m keyed;
      apart = λ m keyed. walks.apart_in_walk enc is eq m keyed;
      no_duplicates = λ alike m keyed. walks.no_duplicates enc is eq m keyed alike;
    }
