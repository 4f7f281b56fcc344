use Rattle.keyed_maps.proofs.CostLemmas.{insert_grows, remove_grows, prefixes_stay, few_prefixes}
use Rattle.keyed_maps.proofs.cost_laws.edits_make_few_nibbles.Goals as goal

pub returns : goal.returns
returns g c =
    let enc = g.K.TrieKey.encoding in
    record {
      insert_takes_none = λ m k v. prefixes_stay _ _ (enc k) (insert_grows (enc k) m (k, v));
      insert_makes_few = λ m k v. few_prefixes _ _ (enc k) (insert_grows (enc k) m (k, v));
      remove_makes_none = λ m k n o before after. prefixes_stay _ _ (enc k) (remove_grows (enc k) m) o n after before;
      remove_takes_few = λ m k n o before after. few_prefixes _ _ (enc k) (remove_grows (enc k) m) o n after before;
    }
