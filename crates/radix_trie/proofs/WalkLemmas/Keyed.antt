-- Each pair of a walk stands at its key's encoding, which begins with the walk's path.
use Rattle.std.proofs.Common.{◌≡◌, ℕ, List, [], ◌∷◌, map as each, Option, Some, inl, inr, refl, sym, ap, ◌∙◌, subst, Bor}
use Rattle.std.specs.FinMap as map
use Rattle.nibble_map.specs.Lists.{Each, Has, IsPrefix, IsRising}
use Rattle.nibble_map.specs.Maps.{PairMap, below, walk}
use Rattle.nibble_map.proofs.ListLemmas.Rising.{Each-from_has}
use Rattle.nibble_map.proofs.MapLemmas.Edits.{has_get, keys_list_stored}
use Rattle.nibble_map.proofs.MapLemmas.Walks.{Has-walk, Each-walk}
use Rattle.radix_nodes.specs.declared.trie_node.TrieNode.{TrieNode}
use Rattle.radix_trie.specs.Loci.{IsLocus}
use Rattle.radix_trie.specs.Roots.{AllKeyed}
use Rattle.radix_trie.specs.Views.{pairs_below}

module _ {K V : Type 0} (enc : K → List ℕ) where
  -- the entry stands at its key's encoding
  abbrev IsKeyed : List ℕ × (K × V) → Type 0
  IsKeyed e = e.0 ≡ enc e.1.0

  -- one of keyed entries stands at its key's encoding
  keyed_has : (es : List (List ℕ × (K × V))) (e : List ℕ) (p : K × V) → AllKeyed enc es → Has es (e, p) → e ≡ enc p.0
  keyed_has [] e p h i = absurd i
  keyed_has (x ∷ es) e p h (inl i) = ap (λ (z : List ℕ × (K × V)). z.0) i ∙ h.0 ∙ sym (ap (λ (z : List ℕ × (K × V)). enc z.1.0) i)
  keyed_has (x ∷ es) e p h (inr i) = keyed_has es e p h.2 i

  -- what a map of keyed entries holds at a list stands at its key's encoding
  pub keyed_get : (m : PairMap K V) → AllKeyed enc (map.entries m) → (e : List ℕ) (p : K × V) → map.get m e ≡ Some p → e ≡ enc p.0
  keyed_get m keyed e p at = keyed_has (map.entries m) e p keyed ((has_get m e p).1 at)

  -- each entry of a walk stands at its key's encoding, where all entries of the map do
  pub keyed_entries : (m : PairMap K V) (p : List ℕ) → AllKeyed enc (map.entries m) → Each IsKeyed (walk m p)
  keyed_entries m p keyed = Each-from_has IsKeyed (walk m p) (λ e h. keyed_get m keyed e.0 e.1 ((Has-walk m p e.0 e.1).0 h).1)

  -- each entry of a walk stands at its key's encoding
  pub keyed_walk : (m : PairMap K V) (p : List ℕ) (found : Option (Bor (TrieNode K V) × ℕ)) → IsLocus enc m p found → Each (λ e. e.0 ≡ enc e.1.0) (walk m p)
  keyed_walk m p found locus = keyed_entries m p locus.1.keyed

  -- the keys of keyed entries whose lists begin with p have encodings that begin with p
  begun_keys : (p : List ℕ) (es : List (List ℕ × (K × V))) → Each (λ e. IsPrefix p e.0) es → Each IsKeyed es → Each (λ k. IsPrefix p (enc k)) (each (λ q. q.0) (each (λ e. e.1) es))
  begun_keys p [] h k = tt
  begun_keys p (e ∷ es) h k = (subst (IsPrefix p) k.0 h.0, begun_keys p es h.1 k.1)

  -- each key that is stored at or below a list has an encoding that begins with it
  pub keys_below : (m : PairMap K V) → AllKeyed enc (map.entries m) → (p : List ℕ) → Each (λ k. IsPrefix p (enc k)) (each (λ q. q.0) (pairs_below m p))
  keys_below m keyed p = begun_keys p (walk m p) (Each-walk m p) (keyed_entries m p keyed)

  -- the lists of keyed entries are the encodings of their keys
  encodings_of : (es : List (List ℕ × (K × V))) → Each IsKeyed es → each (λ e. e.0) es ≡ each (λ p. enc p.0) (each (λ e. e.1) es)
  encodings_of [] h = refl
  encodings_of (e ∷ es) h = (let first = h.0 in let later = encodings_of es h.1 in λ i. first i ∷ later i)

  -- the encodings of the keys that are stored at or below a list rise, in the order of a walk
  pub encodings_rise : (m : PairMap K V) → AllKeyed enc (map.entries m) → (p : List ℕ) → IsRising (each (λ q. enc q.0) (pairs_below m p))
  encodings_rise m keyed p = subst IsRising (encodings_of (walk m p) (keyed_entries m p keyed)) (keys_list_stored (below m p)).rising
