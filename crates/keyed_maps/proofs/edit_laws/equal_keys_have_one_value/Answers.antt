use Rattle.keyed_maps.proofs.KeyLemmas as keyed
use Rattle.keyed_maps.proofs.edit_laws.equal_keys_have_one_value.Goals as goal

pub returns : goal.returns
returns g c =
    let enc = g.K.TrieKey.encoding in
    let is = g.K.TrieKey.is_value in
    let eq = g.K.PartialEq.eq in
    let tells = g.met.K.TrieKey.distinct in
    record {
      equal = λ alike m k j here there. keyed.get_equal enc is eq tells alike m k j here there;
      inserted = λ alike m k j v here there. keyed.inserted enc is eq tells alike m k j here there v;
      removed = λ alike m k j here there. keyed.removed enc is eq tells alike m k j here there;
    }
