-- The map from keys to values that a trie's map is.
use Rattle.std.specs.Prelude.{◌≡◌, ℕ, Bool, true, cond, List, Option, Some, None}
use Rattle.std.specs.FinMap as map
use Rattle.std.specs.Fn.{Shared}
use Rattle.std.specs.Option.{option_map}
use denote.Ref.{Bor, MutBor}
use Rattle.nibble_map.specs.Maps.{PairMap, value_at}

module _ {K V : Type 0} where
  -- by keys: the value at each key's encoding
  abbrev pub keyed_map : (K → List ℕ) → PairMap K V → K → Option V
  keyed_map enc m k = value_at m (enc k)

  -- by keys: the key that is stored at each key's encoding
  abbrev pub stored_key : (K → List ℕ) → PairMap K V → K → Option K
  stored_key enc m k = option_map (λ p. p.0) (map.get m (enc k))

module _ {K V : Type 0} (eq : K → K → Bool) where
  -- f with the value v at the keys that equal k
  abbrev pub keyed_insert : (K → Option V) → K → V → K → Option V
  keyed_insert f k v j = cond (eq k j) (Some v) (f j)

  -- f with no value at the keys that equal k
  abbrev pub keyed_remove : (K → Option V) → K → K → Option V
  keyed_remove f k j = cond (eq k j) None (f j)

-- equal values of the type have equal encodings
abbrev pub EncodesAlike : {K : Type 0} → (K → List ℕ) → (K → Type 0) → (K → K → Bool) → Type 0
EncodesAlike {K} enc is eq = (x y : K) → is x → is y → eq x y ≡ true → enc x ≡ enc y

module _ {F K V : Type 0}
    (g : Shared F (Bor K × (MutBor V × Unit {0})) (Unit {0} × (MutBor V × Unit {0}))) (f : F) where
  -- each call of f at the value v leaves the value u
  abbrev pub AlwaysLeaves : V → V → Type 0
  AlwaysLeaves v u = (key : Bor K) (value left : MutBor V) → value.now ≡ v
      → g.post f (key, (value, tt)) (tt, (left, tt)) → left.now ≡ u
