use Rattle.keyed_maps.proofs.PartLemmas as parts
use Rattle.keyed_maps.proofs.closure_laws.keyed_maps_follow_clones.Goals as goal

pub returns : goal.returns
returns g c =
    let enc = g.K.TrieKey.encoding in
    record {
      get_cloned = parts.get_cloned enc _ _;
      get_same = λ same m n copy. parts.get_same enc _ _ m n copy same;
      cloned_none = parts.copy_none enc _;
    }
