-- The pairs of an image by those of a frozen trie.
use Rattle.std.specs.Prelude.{◌≡◌, ◌≢◌, ℕ, ◌%◌, List, Some, length, slice_get}
use Rattle.std.specs.List.{Any}
use Rattle.nibble_map.specs.Nibbles.{nibbles}

module _ {K : Type 0} (enc : K → List ℕ) where
  -- the bytes of a pair are the encoding of a key, and the values are the same
  abbrev pub IsCodedPair : List ℕ × ℕ → K × ℕ → Type 0
  IsCodedPair p q = (nibbles p.0 ≡ enc q.0) × (p.1 ≡ q.1)

  -- the encoding of some key has an odd count of nibbles
  abbrev pub HasOddKey : {V : Type 0} → List (K × V) → Type 0
  HasOddKey ps = Any (λ p. length (enc p.0) % 2 ≡ 1) ps

  -- the bytes of the pair at i are the encoding of no key that is a value of its type
  abbrev pub IsForeignPair : (K → Type 0) → List (List ℕ × ℕ) → ℕ → Type 0
  IsForeignPair is_value ps i = (p : List ℕ × ℕ) × (slice_get ps i ≡ Some p)
      × ((k : K) → is_value k → nibbles p.0 ≢ enc k)
