use Rattle.radix_trie.specs.Retains.{ReturnsAtPair}
use Rattle.std.proofs.Common.{◌≡◌, true}
use Rattle.keyed_maps.proofs.PartLemmas as parts
use Rattle.keyed_maps.proofs.closure_laws.keyed_maps_follow_retain.Goals as goal

pub returns : goal.returns
returns g c =
    let enc = g.K.TrieKey.encoding in
    let eq = g.K.PartialEq.eq in
    let equal = parts.stored_equal enc g.K.TrieKey.is_value eq g.met.K.TrieKey.distinct in
    let may = ReturnsAtPair g.F.Fn c.args.keep.now in
    record {
      get_kept = λ m n least k v h never. parts.get_kept enc may m n k v h (λ _. Unit {0}) (λ _ _. tt) least (λ j _. never j);
      get_dropped = λ m n retained k v h never. parts.get_dropped enc may m n k v h (λ _. Unit {0}) (λ _ _. tt) retained (λ j _. never j);
      get_at_least = parts.get_at_least enc may;
      kept_by_key = λ m n least keyed k v here h. parts.get_kept enc may m n k v h (λ j. eq j k ≡ true) (equal m keyed k here) least;
      dropped_by_key = λ m n retained keyed k v here h. parts.get_dropped enc may m n k v h (λ j. eq j k ≡ true) (equal m keyed k here) retained;
    }
