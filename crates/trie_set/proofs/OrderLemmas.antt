-- The keys of sets, in the order of their encodings.
use Rattle.std.proofs.Common.{◌≡◌, ◌↔◌, ℕ, Bool, true, false, cond, List, [], ◌∷◌, Option, Some, None, option_map, map as each, refl, sym, ap, ◌∙◌, subst, inl, inr}
use Rattle.std.specs.FinMap as map
use Rattle.nibble_map.specs.Lists.{Each, Has, IsRising}
use Rattle.nibble_map.specs.Maps.{PairMap}
use Rattle.nibble_map.proofs.ListLemmas.Rising.{Each-from_has}
use Rattle.nibble_map.proofs.MapLemmas.Below.{get-retained_lists}
use Rattle.nibble_map.proofs.MapLemmas.Edits.{has_get, keys_list_stored, not_None, same_Some}
use Rattle.radix_trie.proofs.LawLemmas.Asked.{AreAtEncodings}
use Rattle.radix_trie.specs.Sets.{joined}
use Rattle.trie_set.specs.Sets.{key_at, keys_in}
use Rattle.trie_set.proofs.SetLemmas.{get-joined}

module _ {K V : Type 0} (enc : K → List ℕ) where
  encodings_of_keys : (es : List (List ℕ × (K × V))) → Each (λ e. e.0 ≡ enc e.1.0) es → each (λ e. e.0) es ≡ each enc (each (λ e. e.1.0) es)
  encodings_of_keys [] h = refl
  encodings_of_keys (e ∷ es) h = (let first = h.0 in let rest = encodings_of_keys es h.1 in λ i. first i ∷ rest i)

  -- the encodings of a map's keys rise, where each stands at its encoding
  pub keys_rise : (m : PairMap K V) → AreAtEncodings enc m → IsRising (each enc (keys_in m))
  keys_rise m keyed = subst IsRising (encodings_of_keys (map.entries m) (Each-from_has (λ e. e.0 ≡ enc e.1.0) (map.entries m) (λ e h. keyed e.0 e.1 ((has_get m e.0 e.1).0 h)))) (keys_list_stored m).rising

  -- in a part of a map each stands there too
  pub part_keyed : (t : List ℕ → Bool) (m : PairMap K V) → AreAtEncodings enc m → AreAtEncodings enc (map.retain_keys m t)
  part_keyed t m keyed e p at = by (t e) (sym (get-retained_lists m t e) ∙ at)
    where
      by : (b : Bool) → cond b (map.get m e) None ≡ Some p → e ≡ enc p.0
      by true h = keyed e p h
      by false h = absurd (not_None p h)

  -- and in two maps together
  pub joined_keyed : (m n : PairMap K V) → AreAtEncodings enc m → AreAtEncodings enc n → AreAtEncodings enc (joined m n)
  joined_keyed m n ours theirs e p at = by (map.contains_key m e) (sym (get-joined m n e) ∙ at)
    where
      by : (b : Bool) → cond b (map.get m e) (map.get n e) ≡ Some p → e ≡ enc p.0
      by true h = ours e p h
      by false h = theirs e p h

  -- a key of entries, and the entry of a key
  key_has : (es : List (List ℕ × (K × V))) (k : K) → Has (each (λ e. e.1.0) es) k → (e : List ℕ × (K × V)) × Has es e × (e.1.0 ≡ k)
  key_has [] k h = absurd h
  key_has (x ∷ es) k (inl same) = (x, inl refl, sym same)
  key_has (x ∷ es) k (inr h) = (let at = key_has es k h in (at.0, inr at.1, at.2))

  has_key : (es : List (List ℕ × (K × V))) (e : List ℕ × (K × V)) → Has es e → Has (each (λ e. e.1.0) es) e.1.0
  has_key [] e h = absurd h
  has_key (x ∷ es) e (inl same) = inl (ap (λ (z : List ℕ × (K × V)). z.1.0) same)
  has_key (x ∷ es) e (inr h) = inr (has_key es e h)

  some_pair : (o : Option (K × V)) (k : K) → option_map (λ p. p.0) o ≡ Some k → (p : K × V) × (o ≡ Some p) × (p.0 ≡ k)
  some_pair None k h = absurd (not_None k h)
  some_pair (Some p) k h = (p, refl, same_Some p.0 k h)

  -- the keys of a map are those that it answers at their encodings
  pub keys_held : (m : PairMap K V) → AreAtEncodings enc m → (k : K) → Has (keys_in m) k ↔ (key_at m (enc k) ≡ Some k)
  keys_held m keyed k = (
    λ h.
        let at = key_has (map.entries m) k h in
        let got : map.get m at.0.0 ≡ Some at.0.1 = (has_get m at.0.0 at.0.1).0 at.1 in
        let list : at.0.0 ≡ enc k = keyed at.0.0 at.0.1 got ∙ ap enc at.2 in
        ap (option_map (λ p. p.0)) (ap (map.get m) (sym list) ∙ got) ∙ ap Some at.2,
    λ h.
        let at = some_pair (map.get m (enc k)) k h in
        subst (Has (keys_in m)) at.2 (has_key (map.entries m) (enc k, at.0) ((has_get m (enc k) at.0).1 at.1)),
  )
