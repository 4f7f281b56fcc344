-- Maps that answer each key alike, and the keys of a walk.
use Rattle.std.proofs.Common.{◌≡◌, ◌≢◌, ℕ, Bool, true, false, cond, T, List, [], Option, Some, None, is_some, option_map, map as each, Less, Equal, Ordering, is_lt, refl, ap, sym, subst, ◌∙◌}
use Rattle.std.proofs.lemmas.Cmp.{nat_list_cmp_total}
use Rattle.std.specs.Cmp.Lexicographic.{slice_cmp}
use Rattle.std.specs.FinMap as map
use Rattle.std.specs.List.{AllPairs, Contains}
use Rattle.std.specs.Ordering.{nat_cmp}
use Rattle.std.specs.Prelude.{IsTrue}
use Rattle.nibble_map.specs.Lists.{is_prefix}
use Rattle.nibble_map.specs.MapQueries.{IsSame}
use Rattle.nibble_map.specs.Maps.{PairMap}
use Rattle.nibble_map.proofs.ListLemmas.Sorted.{tied_lists_equal}
use Rattle.nibble_map.proofs.MapLemmas.Edits.{not_None, same_Some}
use Rattle.radix_trie.specs.Keys.{IsKeyed}
use Rattle.radix_trie.specs.Views.{pairs_below}
use Rattle.radix_trie.proofs.LawLemmas.Asked.{below_holds, keys_of_part_rise}
use Rattle.radix_trie.proofs.LawLemmas.Orders.{equal_lists}
use Rattle.keyed_maps.specs.KeyedMaps.{EncodesAlike, keyed_map, stored_key}
use Rattle.keyed_maps.proofs.KeyLemmas.{TellsKeys, keyed-get, value_pair}

module _ {K V : Type 0} where
  -- options of pairs are equal where their keys are and their values are
  equal_pairs : (o u : Option (K × V)) → option_map (λ p. p.0) o ≡ option_map (λ p. p.0) u → option_map (λ p. p.1) o ≡ option_map (λ p. p.1) u → o ≡ u
  equal_pairs None None keys values = refl
  equal_pairs None (Some p) keys values = absurd (not_None p.1 values)
  equal_pairs (Some p) None keys values = absurd (not_None p.1 (sym values))
  equal_pairs (Some p) (Some q) keys values = (let key = same_Some p.0 q.0 keys in let value = same_Some p.1 q.1 values in λ i. Some (key i, value i))

  -- a value is there just where its pair is
  some_value : (o : Option (K × V)) → T (is_some o) → T (is_some (option_map (λ p. p.1) o))
  some_value None h = h
  some_value (Some p) h = h

  some_pair : (o : Option (K × V)) → T (is_some (option_map (λ p. p.1) o)) → T (is_some o)
  some_pair None h = h
  some_pair (Some p) h = h

module _ {K V : Type 0} (enc : K → List ℕ) (is : K → Type 0) (m n : PairMap K V) (ours : IsKeyed enc is m) (theirs : IsKeyed enc is n) where
  -- keyed maps agree at a list where they agree at the encoding of each key that may stand there
  agree_at : {X : Type 0} (f : Option (K × V) → X) → ((k : K) → is k → f (map.get m (enc k)) ≡ f (map.get n (enc k))) → (e : List ℕ) → f (map.get m e) ≡ f (map.get n e)
  agree_at f agree e = by (map.get m e) (map.get n e) refl refl
    where
      through : (p : K × V) → (e ≡ enc p.0) × is p.0 → f (map.get m e) ≡ f (map.get n e)
      through p s = ap (λ l. f (map.get m l)) s.0 ∙ agree p.0 s.1 ∙ ap (λ l. f (map.get n l)) (sym s.0)

      by : (o u : Option (K × V)) → map.get m e ≡ o → map.get n e ≡ u → f (map.get m e) ≡ f (map.get n e)
      by (Some p) u at other = through p (ours e p at)
      by None (Some p) at other = through p (theirs e p other)
      by None None at other = ap f (at ∙ sym other)

  -- two maps with one value at each key
  module _ (values : (k : K) → is k → keyed_map enc m k ≡ keyed_map enc n k) where
    pub equal_maps : ((k : K) → is k → stored_key enc m k ≡ stored_key enc n k) → m ≡ n
    equal_maps keys = map.same_map nat_list_cmp_total tied_lists_equal m n (agree_at (λ o. o) (λ k here. equal_pairs (map.get m (enc k)) (map.get n (enc k)) (keys k here) (values k here)))

    pub same_maps : (eq : V → V → Bool) → ((v : V) → IsTrue (eq v v)) → IsSame eq m n
    same_maps eq itself =
        let at = agree_at (option_map (λ p. p.1)) values in
        record {
          same_lists = λ e. (
            λ h. some_pair (map.get n e) (subst (λ o. T (is_some o)) (at e) (some_value (map.get m e) h)),
            λ h. some_pair (map.get m e) (subst (λ o. T (is_some o)) (sym (at e)) (some_value (map.get n e) h)),
          );
          same_values = λ e v w here there. subst (λ x. IsTrue (eq v x)) (same_Some v w (sym here ∙ at e ∙ there)) (itself v);
        }

    -- where equal keys are one value, as numbers are, the stored keys are equal
    module _ (eq : K → K → Bool) (tells : TellsKeys enc is eq) (plain : (x y : K) → is x → is y → eq x y ≡ true → x ≡ y) where
      one_key : (k : K) → is k → (o u : Option (K × V)) → map.get m (enc k) ≡ o → map.get n (enc k) ≡ u → option_map (λ p. p.1) o ≡ option_map (λ p. p.1) u → option_map (λ p. p.0) o ≡ option_map (λ p. p.0) u
      one_key k here None None at other value = refl
      one_key k here None (Some q) at other value = absurd (not_None q.1 value)
      one_key k here (Some p) None at other value = absurd (not_None p.1 (sym value))
      one_key k here (Some p) (Some q) at other value =
          let s = ours (enc k) p at in
          let t = theirs (enc k) q other in
          ap Some (plain p.0 q.0 s.1 t.1 (tells p.0 q.0 s.1 t.1 (sym s.0 ∙ t.0)))

      pub equal_plain : m ≡ n
      equal_plain = equal_maps (λ k here. one_key k here (map.get m (enc k)) (map.get n (enc k)) refl refl (values k here))

module _ {K V : Type 0} (enc : K → List ℕ) (is : K → Type 0) (eq : K → K → Bool) (m : PairMap K V) (keyed : IsKeyed enc is m) where
  -- the keys of a walk are those with a value
  pub given : TellsKeys enc is eq → (k : K) (v : V) → is k → keyed_map enc m k ≡ Some v → (j : K) × (eq j k ≡ true) × Contains (pairs_below m []) (j, v)
  given tells k v here h =
      let at = value_pair (map.get m (enc k)) v h in
      let s = keyed (enc k) at.0 at.1 in
      let held = (below_holds enc m (λ e p i. (keyed e p i).0) [] at.0).1 ((enc at.0.0, refl), ap (map.get m) (sym s.0) ∙ at.1) in
      (at.0.0, tells at.0.0 k s.1 here (sym s.0), subst (λ x. Contains (pairs_below m []) (at.0.0, x)) at.2 held)

  pub has_value : (p : K × V) → Contains (pairs_below m []) p → keyed_map enc m p.0 ≡ Some p.1
  has_value p h = keyed-get enc m p.0 (Some p) ((below_holds enc m (λ e p i. (keyed e p i).0) [] p).0 h).1

  -- each once
  less_not_equal : Less ≡ Equal → ⊥
  less_not_equal clash = subst (λ o. T (is_lt o)) clash tt

  pub apart_in_walk : AllPairs (λ x y. enc x ≢ enc y) (each (λ p. p.0) (pairs_below m []))
  apart_in_walk i j d lt within same =
      less_not_equal (sym (keys_of_part_rise enc is (λ x y. slice_cmp nat_cmp (enc x) (enc y)) (λ x y _ _. refl) m keyed (is_prefix []) i j d lt within) ∙ equal_lists _ _ same)

  module _ (alike : EncodesAlike enc is eq) where
    -- the order of the encodings, but for keys that are equal
    abbrev order : K → K → Ordering
    order x y = cond (eq x y) Equal (slice_cmp nat_cmp (enc x) (enc y))

    ordered : (x y : K) → is x → is y → slice_cmp nat_cmp (enc x) (enc y) ≡ order x y
    ordered x y here there = by (eq x y) refl
      where
        by : (b : Bool) → eq x y ≡ b → slice_cmp nat_cmp (enc x) (enc y) ≡ cond b Equal (slice_cmp nat_cmp (enc x) (enc y))
        by true same = equal_lists (enc x) (enc y) (alike x y here there same)
        by false differ = refl

    not_equal : (b : Bool) (o : Ordering) → cond b Equal o ≡ Less → b ≡ false
    not_equal true o h = absurd (less_not_equal (sym h))
    not_equal false o h = refl

    pub no_duplicates : AllPairs (λ x y. eq x y ≡ false) (each (λ p. p.0) (pairs_below m []))
    no_duplicates i j d lt within = not_equal _ _ (keys_of_part_rise enc is order ordered m keyed (is_prefix []) i j d lt within)
