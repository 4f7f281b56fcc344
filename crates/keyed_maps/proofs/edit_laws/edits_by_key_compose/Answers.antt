use Rattle.std.specs.FinMap as map
use Rattle.keyed_maps.proofs.EditLemmas.{edited_apart, edited_over, inserted, removed}
use Rattle.keyed_maps.proofs.KeyLemmas.{apart}
use Rattle.keyed_maps.proofs.edit_laws.edits_by_key_compose.Goals as goal

pub returns : goal.returns
returns g c =
    let enc = g.K.TrieKey.encoding in
    let differ = apart enc g.K.TrieKey.is_value g.K.PartialEq.eq g.met.K.TrieKey.distinct in
    record {
      insert_insert = λ m k v w.
          edited_over m _ _ _ (enc k) _ _ (inserted m (enc k) (k, v)) (inserted (map.insert m (enc k) (k, v)) (enc k) (k, w)) (inserted m (enc k) (k, w));
      insert_remove = λ m k v.
          edited_over m _ _ _ (enc k) _ _ (removed m (enc k)) (inserted (map.remove m (enc k)) (enc k) (k, v)) (inserted m (enc k) (k, v));
      remove_insert = λ m k v.
          edited_over m _ _ _ (enc k) _ _ (inserted m (enc k) (k, v)) (removed (map.insert m (enc k) (k, v)) (enc k)) (removed m (enc k));
      inserts_commute = λ m k j v w here there other.
          edited_apart m _ _ (enc k) _ (inserted m (enc k) (k, v)) (enc j) _ (inserted (map.insert m (enc k) (k, v)) (enc j) (j, w)) (differ k j here there other)
          _ _ (inserted m (enc j) (j, w)) (inserted (map.insert m (enc j) (j, w)) (enc k) (k, v));
      removes_commute = λ m k j here there other.
          edited_apart m _ _ (enc k) _ (removed m (enc k)) (enc j) _ (removed (map.remove m (enc k)) (enc j)) (differ k j here there other)
          _ _ (removed m (enc j)) (removed (map.remove m (enc j)) (enc k));
      insert_remove_commute = λ m k j v here there other.
          edited_apart m _ _ (enc k) _ (inserted m (enc k) (k, v)) (enc j) _ (removed (map.insert m (enc k) (k, v)) (enc j)) (differ k j here there other)
          _ _ (removed m (enc j)) (inserted (map.remove m (enc j)) (enc k) (k, v));
    }
