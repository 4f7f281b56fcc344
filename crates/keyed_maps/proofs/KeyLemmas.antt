-- What a map answers by keys.
use Rattle.std.proofs.Common.{◌≡◌, ◌≢◌, ℕ, ◌+◌, ◌-◌, zero, suc, Bool, true, false, cond, List, Option, Some, None, is_some, option_map, unwrap_or, nat_cmp, refl, ap, sym, ◌∙◌, arith}
use Rattle.std.proofs.lemmas.Cmp.{nat_list_cmp_total}
use Rattle.std.specs.Cmp.Lexicographic.{slice_cmp}
use Rattle.std.specs.FinMap as map
use Rattle.nibble_map.specs.Maps.{PairMap, with_value}
use Rattle.nibble_map.proofs.ListLemmas.Sorted.{tied_lists_equal}
use Rattle.nibble_map.proofs.MapLemmas.Bridge.{remove-absent}
use Rattle.nibble_map.proofs.MapLemmas.Edits.{not_None, same_Some}
use Rattle.nibble_map.proofs.MapLemmas.SameTests.{anything_of_false}
use Rattle.nibble_map.proofs.MapLemmas.Values.{get-with_value, get-with_value_elsewhere, with_value-absent}
use Rattle.nibble_map.proofs.MapLemmas.Walks.{get-inserted, get-inserted_elsewhere, get-removed, get-removed_elsewhere}
use Rattle.radix_trie.specs.Views.{with_value_or}
use Rattle.keyed_maps.specs.KeyedMaps.{EncodesAlike, keyed_insert, keyed_map, keyed_remove}

-- equal encodings of values of the type come from equal keys
abbrev pub TellsKeys : {K : Type 0} → (K → List ℕ) → (K → Type 0) → (K → K → Bool) → Type 0
TellsKeys {K} enc is eq = (x y : K) → is x → is y → enc x ≡ enc y → eq x y ≡ true

-- the pair of a value, and of none
module _ {K V : Type 0} where
  pub value_pair : (o : Option (K × V)) (v : V) → option_map (λ p. p.1) o ≡ Some v → (p : K × V) × (o ≡ Some p) × (p.1 ≡ v)
  value_pair None v h = absurd (not_None v h)
  value_pair (Some p) v h = (p, refl, same_Some p.1 v h)

  pub value_none : (o : Option (K × V)) → option_map (λ p. p.1) o ≡ None → o ≡ None
  value_none None h = refl
  value_none (Some p) h = absurd (not_None p.1 (sym h))

module _ {K : Type 0} (enc : K → List ℕ) (is : K → Type 0) (eq : K → K → Bool) (tells : TellsKeys enc is eq) where
  -- keys that aren't equal have different encodings
  pub apart : (k j : K) → is k → is j → eq k j ≡ false → enc j ≢ enc k
  apart k j here there differ same = anything_of_false (sym differ ∙ tells k j here there (sym same))

-- a number that isn't 0, less one
one_less : (b : Bool) (n r : ℕ) → b ≡ true → (n ≡ 0 → ⊥) → r ≡ cond b (n - 1) n → r + 1 ≡ n
one_less true zero r t some h = absurd (some refl)
one_less true (suc n) r t some h = omega (arith, h)
one_less false n r t some h = anything_of_false t

module _ {K V : Type 0} (enc : K → List ℕ) where
  -- a pair that is answered at an encoding is the value of the key
  pub keyed-get : (m : PairMap K V) (k : K) (o : Option (K × V)) → map.get m (enc k) ≡ o → keyed_map enc m k ≡ option_map (λ p. p.1) o
  keyed-get m k o at = ap (option_map (λ p. p.1)) at

  -- the key itself
  pub get_empty : (k : K) → keyed_map {V = V} enc map.empty k ≡ None
  get_empty k = keyed-get map.empty k None (map.get-empty (slice_cmp nat_cmp) (enc k))

  pub get_insert_same : (m : PairMap K V) (k : K) (v : V) → keyed_map enc (map.insert m (enc k) (k, v)) k ≡ Some v
  get_insert_same m k v = ap (option_map (λ p. p.1)) (get-inserted m (enc k) (k, v))

  pub get_remove_same : (m : PairMap K V) (k : K) → keyed_map enc (map.remove m (enc k)) k ≡ None
  get_remove_same m k = ap (option_map (λ p. p.1)) (get-removed m (enc k))

  pub get_written_same : (m : PairMap K V) (k : K) (v w : V) → keyed_map enc m k ≡ Some v → keyed_map enc (with_value m (enc k) w) k ≡ Some w
  get_written_same m k v w h =
      let at = value_pair (map.get m (enc k)) v h in
      ap (option_map (λ p. p.1)) (get-with_value m (enc k) w at.0 at.1)

  pub written_none : (m : PairMap K V) (k : K) (w : V) → keyed_map enc m k ≡ None → with_value m (enc k) w ≡ m
  written_none m k w h = with_value-absent m (enc k) w (value_none (map.get m (enc k)) h)

  pub get_filled_same : (m : PairMap K V) (k : K) (w : V) → keyed_map enc (with_value_or m (enc k) k w) k ≡ Some w
  get_filled_same m k w = ap (option_map (λ p. p.1)) (get-inserted m (enc k) (unwrap_or (option_map (λ p. p.0) (map.get m (enc k))) k, w))

  -- another key
  module _ (is : K → Type 0) (eq : K → K → Bool) (tells : TellsKeys enc is eq) (m : PairMap K V) (k j : K) (here : is k) (there : is j) (differ : eq k j ≡ false) where
    pub get_insert_other : (p : K × V) → keyed_map enc (map.insert m (enc k) p) j ≡ keyed_map enc m j
    get_insert_other p = ap (option_map (λ p. p.1)) (get-inserted_elsewhere m (enc k) (enc j) p (apart enc is eq tells k j here there differ))

    pub get_remove_other : keyed_map enc (map.remove m (enc k)) j ≡ keyed_map enc m j
    get_remove_other = ap (option_map (λ p. p.1)) (get-removed_elsewhere m (enc k) (enc j) (apart enc is eq tells k j here there differ))

    pub get_written_other : (w : V) → keyed_map enc (with_value m (enc k) w) j ≡ keyed_map enc m j
    get_written_other w = ap (option_map (λ p. p.1)) (get-with_value_elsewhere m (enc k) w (enc j) (apart enc is eq tells k j here there differ))

  -- equal keys, where these are encoded alike
  module _ (is : K → Type 0) (eq : K → K → Bool) (tells : TellsKeys enc is eq) (alike : EncodesAlike enc is eq) (m : PairMap K V) (k j : K) (here : is k) (there : is j) where
    pub get_equal : eq k j ≡ true → keyed_map enc m k ≡ keyed_map enc m j
    get_equal same = ap (λ e. option_map (λ p. p.1) (map.get m e)) (alike k j here there same)

    pub inserted : (v : V) → keyed_map enc (map.insert m (enc k) (k, v)) j ≡ keyed_insert eq (keyed_map enc m) k v j
    inserted v = by (eq k j) refl
      where
        by : (b : Bool) → eq k j ≡ b → keyed_map enc (map.insert m (enc k) (k, v)) j ≡ cond b (Some v) (keyed_map enc m j)
        by true same = ap (λ e. option_map (λ p. p.1) (map.get (map.insert m (enc k) (k, v)) e)) (sym (alike k j here there same)) ∙ get_insert_same m k v
        by false differ = get_insert_other is eq tells m k j here there differ (k, v)

    pub removed : keyed_map enc (map.remove m (enc k)) j ≡ keyed_remove eq (keyed_map enc m) k j
    removed = by (eq k j) refl
      where
        by : (b : Bool) → eq k j ≡ b → keyed_map enc (map.remove m (enc k)) j ≡ cond b None (keyed_map enc m j)
        by true same = ap (λ e. option_map (λ p. p.1) (map.get (map.remove m (enc k)) e)) (sym (alike k j here there same)) ∙ get_remove_same m k
        by false differ = get_remove_other is eq tells m k j here there differ

  -- how many keys there are
  pub len_insert_new : (m : PairMap K V) (k : K) (v : V) → keyed_map enc m k ≡ None → map.len (map.insert m (enc k) (k, v)) ≡ map.len m + 1
  len_insert_new m k v h = map.len-insert nat_list_cmp_total m (enc k) (k, v) ∙ ap (λ o. cond (is_some o) (map.len m) (map.len m + 1)) (value_none (map.get m (enc k)) h)

  pub len_insert_stored : (m : PairMap K V) (k : K) (v w : V) → keyed_map enc m k ≡ Some w → map.len (map.insert m (enc k) (k, v)) ≡ map.len m
  len_insert_stored m k v w h = map.len-insert nat_list_cmp_total m (enc k) (k, v) ∙ ap (λ o. cond (is_some o) (map.len m) (map.len m + 1)) (value_pair (map.get m (enc k)) w h).1

  pub remove_none : (m : PairMap K V) (k : K) → keyed_map enc m k ≡ None → map.remove m (enc k) ≡ m
  remove_none m k h = remove-absent (slice_cmp nat_cmp) nat_list_cmp_total tied_lists_equal m (enc k) (value_none (map.get m (enc k)) h)

  -- a map with a value isn't empty
  none_in_empty : (m : PairMap K V) (k : K) (w : V) → map.len m ≡ 0 → keyed_map enc m k ≡ Some w → ⊥
  none_in_empty m k w empty h = not_None w (sym (ap (λ n. keyed_map enc n k) (map.empty_of_len m empty) ∙ get_empty k) ∙ h)

  pub len_remove_stored : (m : PairMap K V) (k : K) (w : V) → keyed_map enc m k ≡ Some w → map.len (map.remove m (enc k)) + 1 ≡ map.len m
  len_remove_stored m k w h =
      one_less (map.contains_key m (enc k)) (map.len m) (map.len (map.remove m (enc k))) (ap is_some (value_pair (map.get m (enc k)) w h).1)
      (λ empty. none_in_empty m k w empty h) (map.len-remove nat_list_cmp_total m (enc k))
