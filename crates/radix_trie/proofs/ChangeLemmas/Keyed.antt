-- Maps that are built by edits stay keyed.
use Rattle.std.proofs.Common.{◌≡◌, ℕ, Bool, true, false, cond, not, T, All, List, [], ◌∷◌, Option, Some, None, is_some, option_map, unwrap_or, nat_cmp, ap, refl, sym, subst, ◌∙◌, inl, inr}
use Rattle.std.proofs.lemmas.List.Elements.{All-head, All-tail}
use Rattle.std.specs.Cmp.Lexicographic.{slice_cmp}
use Rattle.std.specs.FinMap as map
use Rattle.nibble_map.specs.Copies.{IsMapCopy}
use Rattle.nibble_map.specs.Lists.{is_prefix}
use Rattle.nibble_map.specs.Maps.{PairMap, below, set_value, with_value, without_below}
use Rattle.nibble_map.specs.Turned.{IsTurnedCopy, turned}
use Rattle.nibble_map.proofs.ListLemmas.Turned.{turned-turned}
use Rattle.nibble_map.proofs.MapLemmas.Below.{get-retained_lists}
use Rattle.nibble_map.proofs.MapLemmas.Edits.{has_get, insert_sets_entry, not_None, remove_cuts_entry}
use Rattle.radix_trie.specs.Building.{with_pairs}
use Rattle.radix_trie.specs.Keys.{IsKeyed}
use Rattle.radix_trie.specs.Values.{ChangesEachPair}
use Rattle.radix_trie.specs.Views.{with_value_or}

module _ {K V : Type 0} (enc : K → List ℕ) (is : K → Type 0) where
  -- the empty map is keyed
  pub keyed_empty : IsKeyed {V = V} enc is map.empty
  keyed_empty e p i = absurd (nothing (sym (map.get-empty (slice_cmp nat_cmp) e) ∙ i))
    where
      nothing : None ≡ Some p → ⊥
      nothing clash = cc

  -- a keyed map stays so where a pair is inserted at its key's encoding
  pub keyed_inserted : (m : PairMap K V) (k : K) (v : V) → IsKeyed enc is m → is k → IsKeyed enc is (map.insert m (enc k) (k, v))
  keyed_inserted m k v h i e p f = elim (((insert_sets_entry m (enc k) (k, v)).exactly e p).0 ((has_get (map.insert m (enc k) (k, v)) e p).1 f)) [
    | inl q ↦ (q.0 ∙ ap (λ (r : K × V). enc r.0) (sym q.1), subst (λ (r : K × V). is r.0) (sym q.1) i)
    | inr q ↦ h e p ((has_get m e p).0 q.1)
  ]

  -- a keyed map stays so where a list is removed
  pub keyed_removed : (m : PairMap K V) (a : List ℕ) → IsKeyed enc is m → IsKeyed enc is (map.remove m a)
  keyed_removed m a h e p f = h e p ((has_get m e p).0 (((remove_cuts_entry m a).exactly e p).0 ((has_get (map.remove m a) e p).1 f)).1)

  -- a keyed map stays so where a value is written in its place
  pub keyed_written : (m : PairMap K V) (a : List ℕ) (w : V) → IsKeyed enc is m → IsKeyed enc is (with_value m a w)
  keyed_written m a w h = by (map.get m a) refl
    where
      by : (o : Option (K × V)) → map.get m a ≡ o → IsKeyed enc is (set_value m a w o)
      by None i = h
      by (Some p) i =
          let k = h a p i in
          subst (λ b. IsKeyed enc is (map.insert m b (p.0, w))) (sym k.0) (keyed_inserted m p.0 w h k.1)

  -- or at a key's encoding, by that key where none was stored there
  pub keyed_written_or : (m : PairMap K V) (k : K) (w : V) → IsKeyed enc is m → is k → IsKeyed enc is (with_value_or m (enc k) k w)
  keyed_written_or m k w h i = by (map.get m (enc k)) refl
    where
      by : (o : Option (K × V)) → map.get m (enc k) ≡ o → IsKeyed enc is (map.insert m (enc k) (unwrap_or (option_map (λ p. p.0) o) k, w))
      by None none = keyed_inserted m k w h i
      by (Some p) at =
          let s = h (enc k) p at in
          subst (λ b. IsKeyed enc is (map.insert m b (p.0, w))) (sym s.0) (keyed_inserted m p.0 w h s.1)

  -- the part of a keyed map whose lists pass a test is keyed
  pub keyed_part : (m : PairMap K V) (t : List ℕ → Bool) → IsKeyed enc is m → IsKeyed enc is (map.retain_keys m t)
  keyed_part m t h e p at = by (t e) (sym (get-retained_lists m t e) ∙ at)
    where
      by : (b : Bool) → cond b (map.get m e) None ≡ Some p → (e ≡ enc p.0) × is p.0
      by true got = h e p got
      by false got = absurd (not_None p got)

  -- a keyed map stays so where pairs of values of the type are inserted
  pub keyed_extended : (m : PairMap K V) (ps : List (K × V)) → IsKeyed enc is m → All (λ p. is p.0) ps → IsKeyed enc is (with_pairs enc m ps)
  keyed_extended m [] h each = h
  keyed_extended m (p ∷ ps) h each =
      keyed_extended (map.insert m (enc p.0) p) ps (keyed_inserted m p.0 p.1 h (All-head (λ q. is q.0) p ps each)) (All-tail (λ q. is q.0) p ps each)

  -- a copy of a keyed map is keyed where copies of its keys keep their encodings, and are values
  pub keyed_copied : (R : K × V → K × V → Type 0) → ((p q : K × V) → R p q → is p.0 → (enc q.0 ≡ enc p.0) × is q.0)
      → (m n : PairMap K V) → IsMapCopy R m n → IsKeyed enc is m → IsKeyed enc is n
  keyed_copied R keeps m n copy h e q at = by (map.get m e) refl
    where
      by : (o : Option (K × V)) → map.get m e ≡ o → (e ≡ enc q.0) × is q.0
      by None none = absurd (subst (λ o. T (is_some o)) none ((copy.same_lists e).1 (subst (λ o. T (is_some o)) (sym at) tt)))
      by (Some p) was =
          let k = h e p was in
          let s = keeps p q (copy.copied_pairs e p q was at) k.1 in
          (k.0 ∙ sym s.0, s.1)

  -- so is the copy at the turned lists, by an encoding that turns them
  pub keyed_turned : (wrapped : K → List ℕ) → ((k : K) → wrapped k ≡ turned (enc k)) → (R : K × V → K × V → Type 0) → ((p q : K × V) → R p q → q.0 ≡ p.0)
      → (m n : PairMap K V) → IsTurnedCopy R m n → IsKeyed enc is m → IsKeyed wrapped is n
  keyed_turned wrapped wrapped_is R keeps m n copy h e q at = by (map.get m (turned e)) refl
    where
      by : (o : Option (K × V)) → map.get m (turned e) ≡ o → (e ≡ wrapped q.0) × is q.0
      by None none = absurd (subst (λ o. T (is_some o)) none ((copy.only_turned e).0 (subst (λ o. T (is_some o)) (sym at) tt)))
      by (Some p) was =
          let k = h (turned e) p was in
          let same = keeps p q (copy.copied_pairs (turned e) p q was (ap (map.get n) (turned-turned e) ∙ at)) in
          (sym (turned-turned e) ∙ ap turned k.0 ∙ sym (wrapped_is p.0) ∙ ap wrapped (sym same), subst is (sym same) k.1)

  -- a keyed map stays so where each value is changed
  pub keyed_changed : (R : K × V → V → Type 0) (m n : PairMap K V) → ChangesEachPair R m n → IsKeyed enc is m → IsKeyed enc is n
  keyed_changed R m n changed h =
      keyed_copied (λ p q. (q.0 ≡ p.0) × R p q.1) (λ p q r i. (ap enc r.0, subst is (sym r.0) i)) m n changed h

  -- a map is keyed where its part below a list is, and the rest
  pub keyed_joined : (m : PairMap K V) (p : List ℕ) → IsKeyed enc is (below m p) → IsKeyed enc is (without_below m p) → IsKeyed enc is m
  keyed_joined m p h k e q at = by (is_prefix p e) refl
    where
      by : (b : Bool) → is_prefix p e ≡ b → (e ≡ enc q.0) × is q.0
      by true i = h e q (get-retained_lists m (is_prefix p) e ∙ ap (λ b. cond b (map.get m e) None) i ∙ at)
      by false i = k e q (get-retained_lists m (λ x. not (is_prefix p x)) e ∙ ap (λ b. cond (not b) (map.get m e) None) i ∙ at)

  -- a keyed map stays so where each value below a list is changed, and nothing else
  pub keyed_changed_below : (R : K × V → V → Type 0) (m n : PairMap K V) (p : List ℕ) → ChangesEachPair R (below m p) (below n p) → without_below n p ≡ without_below m p → IsKeyed enc is m → IsKeyed enc is n
  keyed_changed_below R m n p changed rest h =
      keyed_joined n p (keyed_changed R (below m p) (below n p) changed (keyed_part m (is_prefix p) h))
      (subst (IsKeyed enc is) (sym rest) (keyed_part m (λ x. not (is_prefix p x)) h))
