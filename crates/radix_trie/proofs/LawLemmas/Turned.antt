-- What a turned copy of a map answers.
use Rattle.std.proofs.Common.{◌≡◌, ℕ, T, List, Option, None, Some, is_some, sym, ap, ◌∙◌, subst, refl}
use Rattle.std.specs.FinMap as map
use Rattle.nibble_map.specs.Copies.{IsPairClone}
use Rattle.nibble_map.specs.Lists.{Counts}
use Rattle.nibble_map.specs.Maps.{IsPoint, IsSomePrefix, PairMap}
use Rattle.nibble_map.specs.Turned.{IsSameFootprint, IsTurnedCopy, turned}
use Rattle.nibble_map.proofs.ListLemmas.Unique.{Counts-unique}

module _ {K V : Type 0} (clone : V → V → Type 0) (m n : PairMap K V) (copy : IsTurnedCopy (IsPairClone (λ x y. y ≡ x) clone) m n) where
  -- at a list turned over it holds the key, and a clone of the value
  pub get-turned : (e : List ℕ) (x : K × V) → map.get m e ≡ Some x → (v : V) × (map.get n (turned e) ≡ Some (x.0, v)) × clone x.1 v
  get-turned e x at = by (map.get n (turned e)) refl
    where
      by : (o : Option (K × V)) → map.get n (turned e) ≡ o → (v : V) × (map.get n (turned e) ≡ Some (x.0, v)) × clone x.1 v
      by None there = absurd (subst (λ o. T (is_some o)) there ((copy.turned_lists e).0 (subst (λ o. T (is_some o)) (sym at) tt)))
      by (Some y) there = (let same = copy.copied_pairs e x y at there in (y.1, there ∙ ap (λ k. Some (k, y.1)) same.0, same.1))

  -- and where the map holds none, it holds none
  pub get-absent : (e : List ℕ) → map.get m e ≡ None → map.get n (turned e) ≡ None
  get-absent e at = by (map.get n (turned e)) refl
    where
      by : (o : Option (K × V)) → map.get n (turned e) ≡ o → map.get n (turned e) ≡ None
      by None there = there
      by (Some y) there = absurd (subst (λ o. T (is_some o)) at ((copy.turned_lists e).1 (subst (λ o. T (is_some o)) (sym there) tt)))

module _ {K V : Type 0} (m n : PairMap K V) (same : IsSameFootprint m n) where
  -- maps of one footprint have as many points
  pub points_alike : (j k : ℕ) → Counts (IsPoint m) j → Counts (IsPoint n) k → j ≡ k
  points_alike j k ms ns = Counts-unique (IsPoint n) j k ((same.nodes j).0 ms) ns

  -- and their lists as many prefixes
  pub prefixes_alike : (j k : ℕ) → Counts (IsSomePrefix m) j → Counts (IsSomePrefix n) k → j ≡ k
  prefixes_alike j k ms ns = Counts-unique (IsSomePrefix n) j k ((same.nibbles j).0 ms) ns
