use Rattle.keyed_maps.proofs.WalkLemmas as walks
use Rattle.keyed_maps.proofs.walk_laws.keys_of_pages_are_given.Goals as goal

pub returns : goal.returns
returns g c =
    let enc = g.K.TrieKey.encoding in
    let is = g.K.TrieKey.is_value in
    let eq = g.K.PartialEq.eq in
    let tells = g.met.K.TrieKey.distinct in
    let at = walks.placed enc is in
    record {
      given = λ m keyed e last most. walks.given_page enc m (at m keyed) e last most is eq keyed tells;
      begins = λ m keyed e last most. walks.begins_page enc m (at m keyed) e last most;
      after = λ m keyed e last most. walks.after_page enc m (at m keyed) e last most;
      has_value = λ m keyed e last most. walks.value_page enc m (at m keyed) e last most;
    }
