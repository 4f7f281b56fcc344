-- The keys of walks over a part of a map.
use Rattle.std.proofs.Common.{◌≡◌, ◌≤◌, ◌↔◌, ℕ, zero, suc, Bool, true, T, List, [], ◌∷◌, length, take, Some, refl, ap, sym, subst, arith, ◌∙◌}
use Rattle.std.proofs.lemmas.List.{take_all}
use Rattle.std.specs.FinMap as map
use Rattle.std.specs.List.{Contains}
use Rattle.std.specs.declared.ops.Bound.{Bound}
use Rattle.nibble_map.specs.Lists.{IsBefore, IsPrefix}
use Rattle.nibble_map.specs.Maps.{PairMap}
use Rattle.radix_trie.specs.Keys.{IsKeyed}
use Rattle.radix_trie.specs.Views.{is_within, pairs_above, pairs_after, pairs_below, pairs_within}
use Rattle.radix_trie.proofs.LawLemmas.Asked.{AreAtEncodings, above_holds, after_holds, below_holds, passed, true_by_test}
use Rattle.keyed_maps.specs.KeyedMaps.{keyed_map}
use Rattle.keyed_maps.proofs.KeyLemmas.{TellsKeys, keyed-get, value_pair}

-- the first ones of a list are of the list
contained_take : {A : Type 0} (n : ℕ) (xs : List A) (x : A) → Contains (take n xs) x → Contains xs x
contained_take zero xs x h = absurd (omega (arith, h.1))
contained_take (suc n) [] x h = absurd (omega (arith, h.1))
contained_take (suc n) (y ∷ ys) x (zero, lt, e) = (0, omega arith, e)
contained_take (suc n) (y ∷ ys) x (suc k, lt, e) = (let rest = contained_take n ys x (k, omega (arith, lt), e) in (suc rest.0, omega (arith, rest.1), rest.2))

-- stored: each pair stands at its key's encoding
module _ {K V : Type 0} (enc : K → List ℕ) (m : PairMap K V) (stored : AreAtEncodings enc m) where
  -- a walk that holds the pairs of the map whose keys' encodings have a property
  module _ (walk : List (K × V)) (Has : List ℕ → Type 0) (holds : (p : K × V) → Contains walk p ↔ (Has (enc p.0) × (map.get m (enc p.0) ≡ Some p))) where
    -- gives each key with a value that has it, as the key that is stored there
    alike_in : (k : K) (v : V) → keyed_map enc m k ≡ Some v → Has (enc k) → (j : K) × (enc j ≡ enc k) × Contains walk (j, v)
    alike_in k v h has =
        let at = value_pair (map.get m (enc k)) v h in
        let s = stored (enc k) at.0 at.1 in
        let held = (holds at.0).1 (subst Has s has, ap (map.get m) (sym s) ∙ at.1) in
        (at.0.0, sym s, subst (λ x. Contains walk (at.0.0, x)) at.2 held)

    -- and the value of each key that it gives
    value_in : (p : K × V) → Contains walk p → keyed_map enc m p.0 ≡ Some p.1
    value_in p h = keyed-get enc m p.0 (Some p) ((holds p).0 h).1

    has_in : (p : K × V) → Contains walk p → Has (enc p.0)
    has_in p h = ((holds p).0 h).0

    -- where the keys are values of their type, and equal if their encodings are, it gives an equal key
    given_in : (is : K → Type 0) (eq : K → K → Bool) → IsKeyed enc is m → TellsKeys enc is eq
        → (k : K) (v : V) → is k → keyed_map enc m k ≡ Some v → Has (enc k) → (j : K) × (eq j k ≡ true) × Contains walk (j, v)
    given_in is eq keyed tells k v here h has =
        let found = alike_in k v h has in
        (found.0, tells found.0 k (keyed (enc found.0) (found.0, v) ((holds (found.0, v)).0 found.2).1).1 here found.1, found.2)

    -- the same of its first pairs, which are all where there are no more
    module _ (most : ℕ) where
      alike_first : length walk ≤ most → (k : K) (v : V) → keyed_map enc m k ≡ Some v → Has (enc k) → (j : K) × (enc j ≡ enc k) × Contains (take most walk) (j, v)
      alike_first few k v h has =
          let found = alike_in k v h has in
          (found.0, found.1, subst (λ ps. Contains ps (found.0, v)) (sym (take_all most walk few)) found.2)

      given_first : (is : K → Type 0) (eq : K → K → Bool) → IsKeyed enc is m → TellsKeys enc is eq → length walk ≤ most
          → (k : K) (v : V) → is k → keyed_map enc m k ≡ Some v → Has (enc k) → (j : K) × (eq j k ≡ true) × Contains (take most walk) (j, v)
      given_first is eq keyed tells few k v here h has =
          let found = given_in is eq keyed tells k v here h has in
          (found.0, found.1, subst (λ ps. Contains ps (found.0, v)) (sym (take_all most walk few)) found.2)

      value_first : (p : K × V) → Contains (take most walk) p → keyed_map enc m p.0 ≡ Some p.1
      value_first p h = value_in p (contained_take most walk p h)

      has_first : (p : K × V) → Contains (take most walk) p → Has (enc p.0)
      has_first p h = has_in p (contained_take most walk p h)

  module _ (e : List ℕ) where
    pub given_below : (is : K → Type 0) (eq : K → K → Bool) → IsKeyed enc is m → TellsKeys enc is eq
        → (k : K) (v : V) → is k → keyed_map enc m k ≡ Some v → IsPrefix e (enc k) → (j : K) × (eq j k ≡ true) × Contains (pairs_below m e) (j, v)
    given_below = given_in (pairs_below m e) (IsPrefix e) (below_holds enc m stored e)

    pub value_below : (p : K × V) → Contains (pairs_below m e) p → keyed_map enc m p.0 ≡ Some p.1
    value_below = value_in (pairs_below m e) (IsPrefix e) (below_holds enc m stored e)

    pub begins_below : (p : K × V) → Contains (pairs_below m e) p → IsPrefix e (enc p.0)
    begins_below = has_in (pairs_below m e) (IsPrefix e) (below_holds enc m stored e)

    module _ (most : ℕ) where
      pub alike_first_page : length (pairs_below m e) ≤ most → (k : K) (v : V) → keyed_map enc m k ≡ Some v → IsPrefix e (enc k)
          → (j : K) × (enc j ≡ enc k) × Contains (take most (pairs_below m e)) (j, v)
      alike_first_page = alike_first (pairs_below m e) (IsPrefix e) (below_holds enc m stored e) most

      pub value_first_page : (p : K × V) → Contains (take most (pairs_below m e)) p → keyed_map enc m p.0 ≡ Some p.1
      value_first_page = value_first (pairs_below m e) (IsPrefix e) (below_holds enc m stored e) most

      pub begins_first_page : (p : K × V) → Contains (take most (pairs_below m e)) p → IsPrefix e (enc p.0)
      begins_first_page = has_first (pairs_below m e) (IsPrefix e) (below_holds enc m stored e) most

    pub alike_above : (k : K) (v : V) → keyed_map enc m k ≡ Some v → IsPrefix (enc k) e → (j : K) × (enc j ≡ enc k) × Contains (pairs_above m e) (j, v)
    alike_above = alike_in (pairs_above m e) (λ q. IsPrefix q e) (above_holds enc m stored e)

    pub given_above : (is : K → Type 0) (eq : K → K → Bool) → IsKeyed enc is m → TellsKeys enc is eq
        → (k : K) (v : V) → is k → keyed_map enc m k ≡ Some v → IsPrefix (enc k) e → (j : K) × (eq j k ≡ true) × Contains (pairs_above m e) (j, v)
    given_above = given_in (pairs_above m e) (λ q. IsPrefix q e) (above_holds enc m stored e)

    pub value_above : (p : K × V) → Contains (pairs_above m e) p → keyed_map enc m p.0 ≡ Some p.1
    value_above = value_in (pairs_above m e) (λ q. IsPrefix q e) (above_holds enc m stored e)

    pub begins_above : (p : K × V) → Contains (pairs_above m e) p → IsPrefix (enc p.0) e
    begins_above = has_in (pairs_above m e) (λ q. IsPrefix q e) (above_holds enc m stored e)

  -- of a walk below a list, what passes a test
  narrowed : (e : List ℕ) (walk : List (K × V)) (Passes : List ℕ → Type 0) → ((p : K × V) → Contains walk p ↔ (Contains (pairs_below m e) p × Passes (enc p.0)))
      → (p : K × V) → Contains walk p ↔ ((IsPrefix e (enc p.0) × Passes (enc p.0)) × (map.get m (enc p.0) ≡ Some p))
  narrowed e walk Passes holds p =
      let held = holds p in
      let under = below_holds enc m stored e p in
      (λ h. (let both = held.0 h in let in_map = under.0 both.0 in ((in_map.0, both.1), in_map.1)), λ h. held.1 (under.1 (h.0.0, h.1), h.0.1))

  module _ (low high : Bound (List ℕ)) where
    abbrev Within : List ℕ → Type 0
    Within q = T (is_within low high q)

    within_holds : (p : K × V) → Contains (pairs_within m [] low high) p ↔ ((IsPrefix [] (enc p.0) × Within (enc p.0)) × (map.get m (enc p.0) ≡ Some p))
    within_holds = narrowed [] (pairs_within m [] low high) Within (passed enc m stored [] (is_within low high) Within (λ x. (λ h. h, λ h. h)))

    inside : (k : K) → is_within low high (enc k) ≡ true → IsPrefix [] (enc k) × Within (enc k)
    inside k is_inside = ((enc k, refl), subst T (sym is_inside) tt)

    pub alike_within : (k : K) (v : V) → keyed_map enc m k ≡ Some v → is_within low high (enc k) ≡ true
        → (j : K) × (enc j ≡ enc k) × Contains (pairs_within m [] low high) (j, v)
    alike_within k v h is_inside = alike_in (pairs_within m [] low high) (λ q. IsPrefix [] q × Within q) within_holds k v h (inside k is_inside)

    pub given_within : (is : K → Type 0) (eq : K → K → Bool) → IsKeyed enc is m → TellsKeys enc is eq
        → (k : K) (v : V) → is k → keyed_map enc m k ≡ Some v → is_within low high (enc k) ≡ true
        → (j : K) × (eq j k ≡ true) × Contains (pairs_within m [] low high) (j, v)
    given_within is eq keyed tells k v here h is_inside =
        given_in (pairs_within m [] low high) (λ q. IsPrefix [] q × Within q) within_holds is eq keyed tells k v here h (inside k is_inside)

    pub value_within : (p : K × V) → Contains (pairs_within m [] low high) p → keyed_map enc m p.0 ≡ Some p.1
    value_within = value_in (pairs_within m [] low high) (λ q. IsPrefix [] q × Within q) within_holds

    pub inside_within : (p : K × V) → Contains (pairs_within m [] low high) p → is_within low high (enc p.0) ≡ true
    inside_within p h = true_by_test (is_within low high (enc p.0)) (has_in (pairs_within m [] low high) (λ q. IsPrefix [] q × Within q) within_holds p h).1

  module _ (e last : List ℕ) where
    later_holds : (p : K × V) → Contains (pairs_after m e last) p ↔ ((IsPrefix e (enc p.0) × IsBefore last (enc p.0)) × (map.get m (enc p.0) ≡ Some p))
    later_holds = narrowed e (pairs_after m e last) (IsBefore last) (after_holds enc m stored e last)

    module _ (most : ℕ) where
      pub given_page : (is : K → Type 0) (eq : K → K → Bool) → IsKeyed enc is m → TellsKeys enc is eq → length (pairs_after m e last) ≤ most
          → (k : K) (v : V) → is k → keyed_map enc m k ≡ Some v → IsPrefix e (enc k) → IsBefore last (enc k)
          → (j : K) × (eq j k ≡ true) × Contains (take most (pairs_after m e last)) (j, v)
      given_page is eq keyed tells few k v here h begins later =
          given_first (pairs_after m e last) (λ q. IsPrefix e q × IsBefore last q) later_holds most is eq keyed tells few k v here h (begins, later)

      pub value_page : (p : K × V) → Contains (take most (pairs_after m e last)) p → keyed_map enc m p.0 ≡ Some p.1
      value_page = value_first (pairs_after m e last) (λ q. IsPrefix e q × IsBefore last q) later_holds most

      pub begins_page : (p : K × V) → Contains (take most (pairs_after m e last)) p → IsPrefix e (enc p.0)
      begins_page p h = (has_first (pairs_after m e last) (λ q. IsPrefix e q × IsBefore last q) later_holds most p h).0

      pub after_page : (p : K × V) → Contains (take most (pairs_after m e last)) p → IsBefore last (enc p.0)
      after_page p h = (has_first (pairs_after m e last) (λ q. IsPrefix e q × IsBefore last q) later_holds most p h).1

-- where the keys are values of their type besides, each pair stands at its key's encoding
pub placed : {K V : Type 0} (enc : K → List ℕ) (is : K → Type 0) (m : PairMap K V) → IsKeyed enc is m → AreAtEncodings enc m
placed enc is m keyed e p i = (keyed e p i).0
