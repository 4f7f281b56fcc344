-- A map from lists of nibbles by its entries, which rise by their lists: the stored lists, of which
-- `Points` and `Answers` speak, and the edits of one entry.
use Rattle.std.specs.Prelude.{◌≡◌, ℕ, ◌≢◌, ◌⊎◌, ◌↔◌, List, filter, map}
use Rattle.nibble_map.specs.Lists.{IsRising, Has, is_prefix}

-- the lists that the map holds
abbrev pub stored : {P : Type 0} → List (List ℕ × P) → List (List ℕ)
stored m = map (λ e. e.0) m

module _ {P : Type 0} where
  -- the map holds a pair at e
  abbrev pub IsStored : List (List ℕ × P) → List ℕ → Type 0
  IsStored m e = Has (stored m) e

  -- the entries whose lists have the prefix p, in order
  abbrev pub below : List (List ℕ × P) → List ℕ → List (List ℕ × P)
  below m p = filter (λ e. is_prefix p e.0) m

-- n is m with v at e
pub record IsSetAt {P : Type 0} (m : List (List ℕ × P)) (e : List ℕ) (v : P)
    (n : List (List ℕ × P)) : Type 0 where
  pub rising : IsRising (stored n)
  pub exactly : (x : List ℕ) (w : P)
      → Has n (x, w) ↔ (((x ≡ e) × (w ≡ v)) ⊎ ((x ≢ e) × Has m (x, w)))

-- n is m with nothing at e
pub record IsCutAt {P : Type 0} (m : List (List ℕ × P)) (e : List ℕ) (n : List (List ℕ × P)) :
    Type 0 where
  pub rising : IsRising (stored n)
  pub exactly : (x : List ℕ) (w : P) → Has n (x, w) ↔ ((x ≢ e) × Has m (x, w))
