-- What is left of a map where the pairs that a closure doesn't keep are removed.
use Rattle.std.specs.FinMap as map
use Rattle.std.specs.Fn.{Shared}
use Rattle.std.specs.Prelude.{◌≡◌, ◌⊎◌, ℕ, Bool, true, false, List, [], ◌∷◌, ◌++◌, Some, None, MatchOption}
use denote.Ref.{Bor}
use Rattle.nibble_map.specs.Lists.{Has, IsBefore}
use Rattle.nibble_map.specs.Maps.{PairMap}

module _ {F K V : Type 0} (g : Shared F (Bor K × (Bor V × Unit {0})) Bool) (f : F) where
  -- f may be called at the pair: at a `&` to its key and one to its value
  abbrev pub TakesPairAt : K × V → Type 0
  TakesPairAt p = (k : Bor K) (v : Bor V) → k.now ≡ p.0 → v.now ≡ p.1 → g.pre f (k, (v, tt))

  -- such a call may return b
  pub record ReturnsAtPair (p : K × V) (b : Bool) : Type 0 where
    pub key : Bor K
    pub value : Bor V
    pub shows : (key.now ≡ p.0) × (value.now ≡ p.1)
    pub met : g.post f (key, (value, tt)) b

module _ {K V : Type 0} (returns : K × V → Bool → Type 0) where
  -- at e, new has a pair of old where the closure may return true of it, and lacks it where the closure
  -- may return false, one of the two for each pair; and it has no other pair
  abbrev pub RetainsAt : PairMap K V → PairMap K V → List ℕ → Type 0
  RetainsAt old new e = MatchOption (map.get old e) (map.get new e ≡ None)
      (λ p. (returns p true × (map.get new e ≡ Some p)) ⊎ (returns p false × (map.get new e ≡ None)))

  -- it is so at each list
  abbrev pub Retains : PairMap K V → PairMap K V → Type 0
  Retains old new = (e : List ℕ) → RetainsAt old new e

  -- it is so at each list before some list q, and from q on new is old
  abbrev pub RetainsBefore : PairMap K V → PairMap K V → Type 0
  RetainsBefore old new = (q : List ℕ) × ((e : List ℕ) → IsBefore e q → RetainsAt old new e)
      × ((e : List ℕ) → (IsBefore e q → ⊥) → map.get new e ≡ map.get old e)

  -- new is old, and may lack pairs of which the closure may return false
  abbrev pub RetainsAtLeast : PairMap K V → PairMap K V → Type 0
  RetainsAtLeast old new = (e : List ℕ) → (map.get new e ≡ map.get old e)
      ⊎ ((p : K × V) × (map.get old e ≡ Some p) × returns p false × (map.get new e ≡ None))

  -- of the pairs, gone are the encodings of those of which the closure has returned false, in order
  abbrev pub Sifts : (K → List ℕ) → List (K × V) → List (List ℕ) → Type 0
  Sifts enc [] gone = gone ≡ []
  Sifts enc (p ∷ ps) gone = (returns p true × Sifts enc ps gone)
      ⊎ ((rest : List (List ℕ)) × (gone ≡ enc p.0 ∷ rest) × returns p false × Sifts enc ps rest)

module _ {K V : Type 0} (gone : List (List ℕ)) where
  -- new is old with nothing at the lists
  abbrev pub RemovesAll : PairMap K V → PairMap K V → Type 0
  RemovesAll old new = (e : List ℕ) → (Has gone e × (map.get new e ≡ None))
      ⊎ ((Has gone e → ⊥) × (map.get new e ≡ map.get old e))

  -- new is old with nothing at some of the lists
  abbrev pub RemovesSome : PairMap K V → PairMap K V → Type 0
  RemovesSome old new = (e : List ℕ) → (Has gone e × (map.get new e ≡ None))
      ⊎ (map.get new e ≡ map.get old e)

module _ {K V : Type 0} where
  -- new is old with nothing at the lists before one of them
  abbrev pub RemovesBeforeOne : List (List ℕ) → PairMap K V → PairMap K V → Type 0
  RemovesBeforeOne gone old new = (done : List (List ℕ)) × (q : List ℕ) × (rest : List (List ℕ))
      × (gone ≡ done ++ q ∷ rest) × RemovesAll done old new
