-- The file of a map.
use Rattle.std.specs.Prelude.{◌≡◌, ◌≢◌, ℕ, ◌-◌, ◌<◌, ◌≤◌, ◌^◌, List, [], ◌∷◌, ◌++◌, ⊤, take, map as each}
use Rattle.std.specs.FinMap as map
use Rattle.nibble_map.specs.Lists.{Each, IsRising}
use Rattle.nibble_map.specs.Maps.{PairMap}
use Rattle.nibble_map.specs.Nibbles.{nibbles}
use Rattle.radix_trie.specs.Views.{pairs_below}
use Rattle.frozen_trie.specs.FileRows.{FitsRow, IsFault, file_of_rows}
use Rattle.frozen_trie.specs.Frozen.{codes_of, map_of_pairs}
use Rattle.frozen_trie.specs.declared.file.FileWhy.{FileWhy}
use Rattle.frozen_trie.specs.declared.file.FileWhy.TheVariants.{Full, Key, OutOfOrder, Value}

-- the same at this relation is the same
abbrev pub IsExact : {A : Type 0} → (A → A → Type 0) → Type 0
IsExact {A} same = (x y : A) → same x y → x ≡ y

module _ {K V : Type 0} where
  -- the rows of pairs, by the bytes of a key and those of a value
  abbrev pub pair_rows : (K → List ℕ) → (V → List ℕ) → List (K × V) → List (List ℕ × List ℕ)
  pair_rows key value ps = each (λ p. (key p.0, value p.1)) ps

  -- the whole file: the rows in the order of the keys
  abbrev pub file_of : (K → List ℕ) → (V → List ℕ) → PairMap K V → List ℕ
  file_of key value m = file_of_rows (pair_rows key value (pairs_below m []))

  -- each pair is of a key and a value of their types
  abbrev pub AreItems : (K → Type 0) → (V → Type 0) → List (K × V) → Type 0
  AreItems is_key is_value ps = Each (λ p. is_key p.0 × is_value p.1) ps

  module _ (key : K → List ℕ) (value : V → List ℕ) (is_key : K → Type 0) (is_value : V → Type 0)
      (enc : K → List ℕ) where
    -- why a map isn't read on with the row of these bytes: no key, or no value, has them; the key
    -- doesn't come after those of the map; the map is full
    abbrev pub RefusesRow : PairMap K V → FileWhy → List ℕ × List ℕ → Type 0
    RefusesRow m Key p = (k : K) → is_key k → key k ≢ p.0
    RefusesRow m Value p = (v : V) → is_value v → value v ≢ p.1
    RefusesRow m OutOfOrder p =
        (k : K) × is_key k × (key k ≡ p.0)
        × (IsRising (codes_of enc (pairs_below m []) ++ enc k ∷ []) → ⊥)
    RefusesRow m Full p = 2 ^ 32 - 1 ≤ map.len m
    RefusesRow m why p = ⊥

    -- why the bytes aren't read as a file
    abbrev pub IsFileFault : FileWhy → List ℕ → (pair place : ℕ) → Type 0
    IsFileFault why bytes pair place =
        IsFault (λ m. pair_rows key value (pairs_below m []))
        (λ m. AreItems is_key is_value (pairs_below m [])) RefusesRow why bytes pair place

  -- none of them is looked at
  pub no_items : (is_key : K → Type 0) (is_value : V → Type 0) (ps : List (K × V)) → AreItems is_key is_value (take 0 ps)
  no_items is_key is_value [] = tt
  no_items is_key is_value (p ∷ ps) = tt

  -- the pairs are the same one by one
  abbrev pub AreSamePairs : (K → K → Type 0) → (V → V → Type 0) → List (K × V) → List (K × V) → Type 0
  AreSamePairs key value [] [] = ⊤
  AreSamePairs key value [] (q ∷ qs) = ⊥
  AreSamePairs key value (p ∷ ps) [] = ⊥
  AreSamePairs key value (p ∷ ps) (q ∷ qs) = key p.0 q.0 × value p.1 q.1 × AreSamePairs key value ps qs

-- the pairs of both maps are the same, and they are one map where that tells keys and values
pub record IsSameMap {K V : Type 0} (key : K → K → Type 0) (value : V → V → Type 0)
    (m n : PairMap K V) : Type 0 where
  pub pairs : AreSamePairs key value (pairs_below m []) (pairs_below n [])
  pub equal : IsExact key → IsExact value → m ≡ n

-- each pair fits a row, and is of a key and a value of their types; the count of pairs fits 8
-- bytes, and the map is that of its pairs
pub record IsFileable {K V : Type 0} (key : K → List ℕ) (value : V → List ℕ) (is_key : K → Type 0)
    (is_value : V → Type 0) (enc : K → List ℕ) (m : PairMap K V) : Type 0 where
  pub rows : Each FitsRow (pair_rows key value (pairs_below m []))
  pub items : AreItems is_key is_value (pairs_below m [])
  pub few : map.len m < 2 ^ 64
  pub mapped : m ≡ map_of_pairs enc (pairs_below m [])

-- the same of a map whose keys are byte strings, and stand in the file as they are
module _ {V : Type 0} (value : V → List ℕ) where
  abbrev pub text_file : PairMap (List ℕ) V → List ℕ
  text_file m = file_of (λ bytes. bytes) value m

  -- why the bytes aren't read as its file
  abbrev pub IsTextFault : (V → Type 0) → FileWhy → List ℕ → (pair place : ℕ) → Type 0
  IsTextFault is_value why bytes pair place =
      IsFileFault (λ bytes. bytes) value (λ _. ⊤) is_value nibbles why bytes pair place

  abbrev pub IsTextFileable : (V → Type 0) → PairMap (List ℕ) V → Type 0
  IsTextFileable is_value m = IsFileable (λ bytes. bytes) value (λ _. ⊤) is_value nibbles m

abbrev pub IsSameTextMap : {V : Type 0} → (V → V → Type 0) → (m n : PairMap (List ℕ) V) → Type 0
IsSameTextMap value m n = IsSameMap (λ a b. a ≡ b) value m n
