-- The keys of a frozen trie stand at their encodings.
use Rattle.std.proofs.Common.{◌≡◌, ℕ, List, [], ◌∷◌, map, inl, inr, sym, ap, subst, ◌∙◌}
use Rattle.std.specs.FinMap as fin
use Rattle.nibble_map.specs.Lists.{Each, Has, IsPrefix, IsRising}
use Rattle.nibble_map.specs.Maps.{PairMap, walk}
use Rattle.nibble_map.proofs.ListLemmas.Rising.{Each-from_has}
use Rattle.nibble_map.proofs.MapLemmas.Edits.{has_get}
use Rattle.nibble_map.proofs.MapLemmas.Walks.{Each-walk, Has-walk}
use Rattle.radix_trie.specs.Views.{pairs_below}
use Rattle.radix_trie.proofs.LawLemmas.Asked.{AreAtEncodings}
use Rattle.frozen_trie.specs.Frozen.{coded_pairs, codes_of, map_of_pairs}
use Rattle.frozen_trie.proofs.FrozenLemmas.Rows.{entries_are_rows}

module _ {K V : Type 0} (enc : K → List ℕ) where
  -- a pair with its code has the key's encoding
  coded_has : (ps : List (K × V)) (e : List ℕ) (p : K × V) → Has (coded_pairs enc ps) (e, p) → e ≡ enc p.0
  coded_has [] e p h = absurd h
  coded_has (q ∷ ps) e p (inl i) = ap (λ (z : List ℕ × (K × V)). z.0) i ∙ sym (ap (λ (z : List ℕ × (K × V)). enc z.1.0) i)
  coded_has (q ∷ ps) e p (inr h) = coded_has ps e p h

  -- the map of pairs has each at its key's encoding
  pub at_encodings : (m : PairMap K V) → m ≡ map_of_pairs enc (pairs_below m []) → IsRising (codes_of enc (pairs_below m [])) → AreAtEncodings enc m
  at_encodings m mapped rises e p at =
      coded_has (pairs_below m []) e p (subst (λ es. Has es (e, p)) (ap fin.entries mapped ∙ entries_are_rows enc (pairs_below m []) rises) ((has_get m e p).1 at))

  begun_keys : (e : List ℕ) (es : List (List ℕ × (K × V))) → Each (λ x. IsPrefix e x.0) es → Each (λ x. x.0 ≡ enc x.1.0) es → Each (λ k. IsPrefix e (enc k)) (map (λ p. p.0) (map (λ x. x.1) es))
  begun_keys e [] h k = tt
  begun_keys e (x ∷ es) h k = (subst (IsPrefix e) k.0 h.0, begun_keys e es h.1 k.1)

  -- the keys at and below a list have encodings that begin with it
  pub begun_below : (m : PairMap K V) → AreAtEncodings enc m → (e : List ℕ) → Each (λ k. IsPrefix e (enc k)) (map (λ p. p.0) (pairs_below m e))
  begun_below m keyed e =
      begun_keys e (walk m e) (Each-walk m e) (Each-from_has (λ x. x.0 ≡ enc x.1.0) (walk m e) (λ x h. keyed x.0 x.1 ((Has-walk m e x.0 x.1).0 h).1))
