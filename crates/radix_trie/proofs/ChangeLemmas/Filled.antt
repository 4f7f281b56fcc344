-- A pair that is stored where there was none, and a value that is written there then.
use Rattle.std.proofs.Common.{◌≡◌, ℕ, Bool, true, false, T, cond, List, Option, Some, None, MatchOption, is_some, option_map, unwrap_or, nat_cmp, refl, ap, sym, ◌∙◌}
use Rattle.std.proofs.lemmas.Cmp.{nat_list_cmp_total}
use Rattle.std.specs.Ordering.{eq_by_cmp}
use Rattle.std.specs.Cmp.Lexicographic.{slice_cmp}
use Rattle.std.specs.FinMap as map
use Rattle.std.specs.Option.{UnwrapsOrElse}
use Rattle.nibble_map.specs.Maps.{IsStored, PairMap, set_value, value_at, with_value}
use Rattle.nibble_map.proofs.ListLemmas.Sorted.{tied_lists_equal}
use Rattle.nibble_map.proofs.MapLemmas.Walks.{get-inserted}
use Rattle.radix_trie.specs.Values.{IsFilled}
use Rattle.radix_trie.specs.Views.{with_value_or}

module _ {K V : Type 0} (m : PairMap K V) (e : List ℕ) where
  -- the second of two insertions at a list replaces the first
  insert-twice : (p q : K × V) → map.insert (map.insert m e p) e q ≡ map.insert m e q
  insert-twice p q = map.same_map nat_list_cmp_total tied_lists_equal _ _ (λ x.
      map.get-insert nat_list_cmp_total (map.insert m e p) e q x
      ∙ ap (cond (eq_by_cmp (slice_cmp nat_cmp) x e) (Some q)) (map.get-insert nat_list_cmp_total m e p x)
      ∙ inner (eq_by_cmp (slice_cmp nat_cmp) x e) (map.get m x)
      ∙ sym (map.get-insert nat_list_cmp_total m e q x))
    where
      inner : (b : Bool) (o : Option (K × V)) → cond b (Some q) (cond b (Some p) o) ≡ cond b (Some q) o
      inner true o = refl
      inner false o = refl

  -- where a pair stands at e, the map is filled as it is, and its value is the one that stands there
  pub filled-stored : (k : K) (P : V → Type 0) → IsStored m e → (v : V) × UnwrapsOrElse (value_at m e) P v × IsFilled m e (k, v) m
  filled-stored k P = by (map.get m e)
    where
      by : (o : Option (K × V)) → T (is_some o) → (v : V) × UnwrapsOrElse (option_map (λ p. p.1) o) P v × MatchOption o (m ≡ map.insert m e (k, v)) (λ _. m ≡ m)
      by None stored = absurd stored
      by (Some x) stored = (x.1, refl, refl)

  module _ (k : K) (v : V) (n : PairMap K V) (is : IsFilled m e (k, v) n) where
    -- a filled map has v at e, where v stood there or nothing did
    pub value_at-filled : (P : V → Type 0) → UnwrapsOrElse (value_at m e) P v → value_at n e ≡ Some v
    value_at-filled P = by (map.get m e) refl is
      where
        by : (o : Option (K × V)) → map.get m e ≡ o → MatchOption o (n ≡ map.insert m e (k, v)) (λ _. n ≡ m) → UnwrapsOrElse (option_map (λ p. p.1) o) P v → value_at n e ≡ Some v
        by None at came made = ap (λ x. value_at x e) came ∙ ap (option_map (λ p. p.1)) (get-inserted m e (k, v))
        by (Some x) at stays same = ap (λ x. value_at x e) stays ∙ ap (option_map (λ p. p.1)) at ∙ ap Some (sym same)

    -- a value that is written there stands behind the key that stood there, or the one that came
    pub with_value-filled : (w : V) → with_value n e w ≡ with_value_or m e k w
    with_value-filled w = by (map.get m e) refl is
      where
        by : (o : Option (K × V)) → map.get m e ≡ o → MatchOption o (n ≡ map.insert m e (k, v)) (λ _. n ≡ m) → with_value n e w ≡ map.insert m e (unwrap_or (option_map (λ p. p.0) o) k, w)
        by None at came =
            ap (λ x. with_value x e w) came
            ∙ ap (set_value (map.insert m e (k, v)) e w) (get-inserted m e (k, v))
            ∙ insert-twice (k, v) (k, w)
        by (Some x) at stays = ap (λ x. with_value x e w) stays ∙ ap (set_value m e w) at
