-- The map with another value at a list.
use Rattle.std.proofs.Common.{◌≡◌, ℕ, ◌≢◌, ◌↔◌, Bool, true, false, cond, T, List, Option, Some, None, is_some, refl, sym, ap, ◌∙◌, subst, nat_cmp, is_eq, ◌+◌}
use Rattle.std.specs.Ordering.{eq_by_cmp}
use Rattle.std.specs.Cmp.{tied_itself}
use Rattle.std.specs.Cmp.Lexicographic.{slice_cmp}
use Rattle.std.proofs.lemmas.Cmp.{nat_list_cmp_total}
use Rattle.std.specs.FinMap as map
use Rattle.nibble_map.specs.Maps.{NibbleMap, PairMap, IsStored, with_value, set_value}
use Rattle.nibble_map.proofs.MapLemmas.Bridge.{equal_by_test}
use Rattle.nibble_map.proofs.ListLemmas.Sorted.{tied_lists_equal}

-- whether two lists are one, as the map sees it
-- a list compares as equal to itself
pub ties_itself : (q : List ℕ) → eq_by_cmp (slice_cmp nat_cmp) q q ≡ true
ties_itself q = ap is_eq (tied_itself nat_list_cmp_total q)

-- different lists don't compare as equal
pub different_untied : (q e : List ℕ) → q ≢ e → eq_by_cmp (slice_cmp nat_cmp) q e ≡ false
different_untied q e n = by (eq_by_cmp (slice_cmp nat_cmp) q e) refl
  where
    by : (b : Bool) → eq_by_cmp (slice_cmp nat_cmp) q e ≡ b → b ≡ false
    by true t = absurd (n (tied_lists_equal q e (equal_by_test _ (subst T (sym t) tt))))
    by false t = refl

module _ {K V : Type 0} where
  -- a value written where the map holds nothing changes nothing
  pub with_value-absent : (m : PairMap K V) (e : List ℕ) (w : V) → map.get m e ≡ None → with_value m e w ≡ m
  with_value-absent m e w none = ap (set_value m e w) none

  -- a value written where the map holds a pair is an insertion of the key with that value
  pub with_value-stored : (m : PairMap K V) (e : List ℕ) (w : V) (p : K × V) → map.get m e ≡ Some p → with_value m e w ≡ map.insert m e (p.0, w)
  with_value-stored m e w p is = ap (set_value m e w) is

  -- a fact of the map with w at e, where the map holds a pair at e and where it doesn't
  by_stored : (C : PairMap K V → Type 0) (m : PairMap K V) (e : List ℕ) (w : V) → (map.get m e ≡ None → C m) → ((p : K × V) → map.get m e ≡ Some p → C (map.insert m e (p.0, w))) → C (with_value m e w)
  by_stored C m e w f g = by (map.get m e) f g
    where
      by : (o : Option (K × V)) → (o ≡ None → C m) → ((p : K × V) → o ≡ Some p → C (map.insert m e (p.0, w))) → C (set_value m e w o)
      by None f g = f refl
      by (Some p) f g = g p refl

  -- a value written at e leaves what the map answers at other lists
  pub get-with_value_elsewhere : (m : PairMap K V) (e : List ℕ) (w : V) (q : List ℕ) → q ≢ e → map.get (with_value m e w) q ≡ map.get m q
  get-with_value_elsewhere m e w q n = by_stored (λ o. map.get o q ≡ map.get m q) m e w (λ i. refl)
      (λ p i. map.get-insert nat_list_cmp_total m e (p.0, w) q ∙ ap (λ b. cond b (Some (p.0, w)) (map.get m q)) (different_untied q e n))

  -- a value written at e, where the map holds a pair, is answered there with the pair's key
  pub get-with_value : (m : PairMap K V) (e : List ℕ) (w : V) (p : K × V) → map.get m e ≡ Some p → map.get (with_value m e w) e ≡ Some (p.0, w)
  get-with_value m e w p is = ap (λ n. map.get n e) (with_value-stored m e w p is) ∙ map.get-insert nat_list_cmp_total m e (p.0, w) e ∙ ap (λ b. cond b (Some (p.0, w)) (map.get m e)) (ties_itself e)

  -- a value written at e leaves the test of which keys the map contains
  contains_key-with_value : (m : PairMap K V) (e : List ℕ) (w : V) (q : List ℕ) → map.contains_key (with_value m e w) q ≡ map.contains_key m q
  contains_key-with_value m e w q = by_stored (λ o. map.contains_key o q ≡ map.contains_key m q) m e w (λ i. refl)
      (λ p i. ap is_some (map.get-insert nat_list_cmp_total m e (p.0, w) q) ∙ by (eq_by_cmp (slice_cmp nat_cmp) q e) refl p i)
    where
      by : (b : Bool) → eq_by_cmp (slice_cmp nat_cmp) q e ≡ b → (p : K × V) → map.get m e ≡ Some p → is_some (cond b (Some (p.0, w)) (map.get m q)) ≡ map.contains_key m q
      by true t p i = sym (ap is_some (ap (map.get m) (tied_lists_equal q e (equal_by_test _ (subst T (sym t) tt))) ∙ i))
      by false t p i = refl

  -- a value written at e leaves which lists are stored
  pub with_same_lists : (m : PairMap K V) (e : List ℕ) (w : V) (q : List ℕ) → IsStored (with_value m e w) q ↔ IsStored m q
  with_same_lists m e w q = (subst T (contains_key-with_value m e w q), subst T (sym (contains_key-with_value m e w q)))

  -- a value written at e leaves the number of entries
  pub len-with_value : (m : PairMap K V) (e : List ℕ) (w : V) → map.len (with_value m e w) ≡ map.len m
  len-with_value m e w = by_stored (λ o. map.len o ≡ map.len m) m e w (λ i. refl)
      (λ p i. map.len-insert nat_list_cmp_total m e (p.0, w) ∙ ap (λ o. cond (is_some o) (map.len m) (map.len m + 1)) i)

-- the removal of a list that was just added gives the map back
pub remove-inserted : {P : Type 0} (m : NibbleMap P) (e : List ℕ) (v : P) → map.get m e ≡ None → map.remove (map.insert m e v) e ≡ m
remove-inserted m e v none = map.same_map nat_list_cmp_total tied_lists_equal _ _ (λ q. map.get-remove nat_list_cmp_total (map.insert m e v) e q
    ∙ ap (cond (eq_by_cmp (slice_cmp nat_cmp) q e) None) (map.get-insert nat_list_cmp_total m e v q) ∙ by q (eq_by_cmp (slice_cmp nat_cmp) q e) refl)
  where
    by : (q : List ℕ) (b : Bool) → eq_by_cmp (slice_cmp nat_cmp) q e ≡ b → cond b None (cond b (Some v) (map.get m q)) ≡ map.get m q
    by q true t = sym (ap (map.get m) (tied_lists_equal q e (equal_by_test _ (subst T (sym t) tt))) ∙ none)
    by q false t = refl
