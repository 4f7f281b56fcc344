-- What a walk gives, and what one edit leaves.
use Rattle.std.proofs.Common.{◌≡◌, ◌≢◌, ◌↔◌, ℕ, Bool, true, false, cond, List, Option, Some, None, refl, sym, ap, ◌∙◌}
use Rattle.std.proofs.lemmas.Cmp.{nat_list_cmp_total}
use Rattle.std.specs.FinMap as map
use Rattle.nibble_map.specs.Lists.{Each, Has, IsPrefix, is_prefix}
use Rattle.nibble_map.specs.Maps.{NibbleMap, below, walk, without_below}
use Rattle.nibble_map.proofs.ListLemmas.Parted.{prefix_by_test, is_prefix_true}
use Rattle.nibble_map.proofs.ListLemmas.Rising.{Each-from_has}
use Rattle.nibble_map.proofs.MapLemmas.Below.{get-retained_lists}
use Rattle.nibble_map.proofs.MapLemmas.Edits.{has_get, not_None}
use Rattle.nibble_map.proofs.MapLemmas.Values.{ties_itself, different_untied}
use Rattle.nibble_map.proofs.MapLemmas.Without.{get-without_below}

module _ {P : Type 0} where
  -- a map that keeps the lists with the prefix p holds v at e exactly where p is a prefix of e and v was held there
  held_below : (p e : List ℕ) (v : P) (o : Option P) → (cond (is_prefix p e) o None ≡ Some v) ↔ (IsPrefix p e × (o ≡ Some v))
  held_below p e v o = by (is_prefix p e) refl
    where
      by : (b : Bool) → is_prefix p e ≡ b → (cond b o None ≡ Some v) ↔ (IsPrefix p e × (o ≡ Some v))
      by true t = (λ k. (prefix_by_test p e t, k), λ k. k.1)
      by false t = (λ k. absurd (not_None v k), λ k. absurd (let both : true ≡ false = sym (is_prefix_true p e k.0) ∙ t in cc both))

  -- the walk below p has v at e exactly where p is a prefix of e and the map holds v there
  pub Has-walk : (m : NibbleMap P) (p e : List ℕ) (v : P) → Has (walk m p) (e, v) ↔ (IsPrefix p e × (map.get m e ≡ Some v))
  Has-walk m p e v =
      let held = held_below p e v (map.get m e) in
      let has = has_get (below m p) e v in
      let kept = get-retained_lists m (is_prefix p) e in
      (λ h. held.0 (sym kept ∙ has.0 h), λ h. has.1 (kept ∙ held.1 h))

  -- each list of the walk below p has the prefix p
  pub Each-walk : (m : NibbleMap P) (p : List ℕ) → Each (λ e. IsPrefix p e.0) (walk m p)
  Each-walk m p = Each-from_has (λ e. IsPrefix p e.0) (walk m p) (λ e h. ((Has-walk m p e.0 e.1).0 h).0)

  -- an insertion at e is answered there
  pub get-inserted : (m : NibbleMap P) (e : List ℕ) (v : P) → map.get (map.insert m e v) e ≡ Some v
  get-inserted m e v = map.get-insert nat_list_cmp_total m e v e ∙ ap (λ b. cond b (Some v) (map.get m e)) (ties_itself e)

  -- an insertion at e leaves what the map answers elsewhere
  pub get-inserted_elsewhere : (m : NibbleMap P) (e q : List ℕ) (v : P) → q ≢ e → map.get (map.insert m e v) q ≡ map.get m q
  get-inserted_elsewhere m e q v n = map.get-insert nat_list_cmp_total m e v q ∙ ap (λ b. cond b (Some v) (map.get m q)) (different_untied q e n)

  -- what was removed at e isn't answered
  pub get-removed : (m : NibbleMap P) (e : List ℕ) → map.get (map.remove m e) e ≡ None
  get-removed m e = map.get-remove nat_list_cmp_total m e e ∙ ap (λ b. cond b None (map.get m e)) (ties_itself e)

  -- a removal at e leaves what the map answers elsewhere
  pub get-removed_elsewhere : (m : NibbleMap P) (e q : List ℕ) → q ≢ e → map.get (map.remove m e) q ≡ map.get m q
  get-removed_elsewhere m e q n = map.get-remove nat_list_cmp_total m e q ∙ ap (λ b. cond b None (map.get m q)) (different_untied q e n)

  -- the rest of a map answers none at lists with the prefix p
  pub get-rest_below : (m : NibbleMap P) (p e : List ℕ) → IsPrefix p e → map.get (without_below m p) e ≡ None
  get-rest_below m p e h = get-without_below p m e ∙ ap (λ b. cond b None (map.get m e)) (is_prefix_true p e h)

  -- the rest of a map answers elsewhere as the map does
  pub get-rest_elsewhere : (m : NibbleMap P) (p e : List ℕ) → (IsPrefix p e → ⊥) → map.get (without_below m p) e ≡ map.get m e
  get-rest_elsewhere m p e apart = get-without_below p m e ∙ by (is_prefix p e) refl
    where
      by : (b : Bool) → is_prefix p e ≡ b → cond b None (map.get m e) ≡ map.get m e
      by true t = absurd (apart (prefix_by_test p e t))
      by false t = refl
