-- What the part of a map below a path holds.
use Rattle.std.proofs.Common.{◌≡◌, ◌↔◌, ℕ, Bool, true, false, cond, T, List, None, is_some, refl, sym, ap, ◌∙◌, subst}
use Rattle.std.proofs.lemmas.List.{length-map}
use Rattle.std.specs.FinMap as map
use Rattle.nibble_map.specs.Lists.{Counts, IsPrefix, is_prefix}
use Rattle.nibble_map.specs.Maps.{IsStored, NibbleMap, below}
use Rattle.nibble_map.proofs.ListLemmas.Parted.{prefix_by_test, is_prefix_true}
use Rattle.nibble_map.proofs.MapLemmas.Below.{get-retained_lists}
use Rattle.nibble_map.proofs.MapLemmas.Edits.{keys_list_stored}

module _ {P : Type 0} (m : NibbleMap P) (p : List ℕ) where
  -- at the lists with the prefix the part answers as the map does
  pub get-inside : (e : List ℕ) → IsPrefix p e → map.get (below m p) e ≡ map.get m e
  get-inside e h = get-retained_lists m (is_prefix p) e ∙ ap (λ b. cond b (map.get m e) None) (is_prefix_true p e h)

  -- and elsewhere none
  pub get-outside : (e : List ℕ) → (IsPrefix p e → ⊥) → map.get (below m p) e ≡ None
  get-outside e apart = get-retained_lists m (is_prefix p) e ∙ by (is_prefix p e) refl
    where
      by : (b : Bool) → is_prefix p e ≡ b → cond b (map.get m e) None ≡ None
      by true t = absurd (apart (prefix_by_test p e t))
      by false t = refl

  -- it holds exactly the stored lists with the prefix
  pub stored-part : (e : List ℕ) → IsStored (below m p) e ↔ (IsPrefix p e × IsStored m e)
  stored-part e = (by (is_prefix p e) refl, λ h. subst (λ o. T (is_some o)) (sym (get-inside e h.0)) h.1)
    where
      by : (b : Bool) → is_prefix p e ≡ b → IsStored (below m p) e → IsPrefix p e × IsStored m e
      by true t h = (let begins = prefix_by_test p e t in (begins, subst (λ o. T (is_some o)) (get-inside e begins) h))
      by false t h = absurd (subst (λ o. T (is_some o)) (get-retained_lists m (is_prefix p) e ∙ ap (λ b. cond b (map.get m e) None) t) h)

  -- so its count is that of these lists
  pub count-part : Counts (λ e. IsPrefix p e × IsStored m e) (map.len (below m p))
  count-part =
      let keys = keys_list_stored (below m p) in
      record {
        list = map.keys (below m p);
        lists = record { rising = keys.rising; exactly = λ e. (λ h. (stored-part e).0 ((keys.exactly e).0 h), λ h. (keys.exactly e).1 ((stored-part e).1 h)) };
        length_is = length-map (map.entries (below m p)) (λ e. e.0) ∙ sym (map.len-entries (below m p));
      }
