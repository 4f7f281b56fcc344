use Rattle.std.proofs.Common.{◌∙◌, Some, ap, sym}
use Rattle.keyed_maps.proofs.PartLemmas as parts
use Rattle.keyed_maps.proofs.closure_laws.keyed_maps_follow_changes.Goals as goal

pub returns : goal.returns
returns g c =
    let enc = g.K.TrieKey.encoding in
    let changed = parts.get_changed enc g.K.TrieKey.is_value g.K.PartialEq.eq g.met.K.TrieKey.distinct _ in
    record {
      get_changed = changed;
      get_changed_to = λ m n copy k v u h always.
          let at = changed m n copy k v h in
          let left = at.2 in
          at.3 ∙ ap Some (sym left.leaves ∙ always left.key left.value left.left left.shows.1 left.met);
      get_mapped = λ m n copy f always. parts.get_mapped enc _ f m n copy
          (λ p w left. sym left.leaves ∙ always p.1 left.key left.value left.left left.shows.1 left.met);
      keys_stay = parts.keys_stay enc _;
      changed_none = parts.copy_none enc _;
    }
