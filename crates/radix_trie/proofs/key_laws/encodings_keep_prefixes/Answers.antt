use Rattle.std.proofs.Common.{◌≡◌, ℕ, List, [], ◌∷◌, subst}
use Rattle.nibble_map.specs.Lists.{Each, IsPrefix}
use Rattle.nibble_map.specs.Nibbles.{nibbles}
use Rattle.radix_keys.proofs.KeyLemmas.Prefixes.{nibbles_prefix}
use Rattle.radix_trie.proofs.key_laws.encodings_keep_prefixes.Goals as goal

-- keys whose encodings, the nibbles of their bytes, begin with the nibbles of some bytes begin with these
begun_bytes : {K : Type 0} (enc bytes_of : K → List ℕ) → ((k : K) → enc k ≡ nibbles (bytes_of k)) → (start : List ℕ) (keys : List K)
    → Each (λ k. IsPrefix (nibbles start) (enc k)) keys → Each (λ k. IsPrefix start (bytes_of k)) keys
begun_bytes enc bytes_of same start [] h = tt
begun_bytes enc bytes_of same start (k ∷ keys) h =
    ((nibbles_prefix start (bytes_of k)).0 (subst (IsPrefix (nibbles start)) (same k) h.0), begun_bytes enc bytes_of same start keys h.1)

pub returns : goal.returns
returns g c = begun_bytes g.K.TrieKey.encoding
