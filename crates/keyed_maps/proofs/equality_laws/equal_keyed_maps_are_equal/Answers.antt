use Rattle.keyed_maps.proofs.EqualityLemmas as maps
use Rattle.keyed_maps.proofs.equality_laws.equal_keyed_maps_are_equal.Goals as goal

pub returns : goal.returns
returns g c =
    let enc = g.K.TrieKey.encoding in
    let is = g.K.TrieKey.is_value in
    record {
      same = λ eq itself m n ours theirs values. maps.same_maps enc is m n ours theirs values eq itself;
      equal = λ m n ours theirs values. maps.equal_maps enc is m n ours theirs values;
      equal_plain = λ plain m n ours theirs values.
          maps.equal_plain enc is m n ours theirs values g.K.PartialEq.eq g.met.K.TrieKey.distinct plain;
    }
