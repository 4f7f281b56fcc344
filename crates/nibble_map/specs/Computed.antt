-- The same by slow functions over a map's entries, for worked rows.
use Rattle.std.specs.Prelude.{ℕ, ◌+◌, suc, Bool, cond, not, ◌&&◌, ◌||◌, eqb, leb, List, [], ◌∷◌, map, length, drop, filter, filter_map, flat_map, Option, Some, None, unwrap_or, ⊤}
use Rattle.std.specs.List.{list_any}
use Rattle.std.specs.Ordering.{nat_cmp, eq_by_cmp}
use Rattle.std.specs.Cmp.Lexicographic.{slice_cmp}
use Rattle.std.specs.FinMap.{put}
use Rattle.nibble_map.specs.Lists.{is_prefix}
use Rattle.nibble_map.specs.Stored.{stored}

-- whether two lists are one
abbrev pub same : List ℕ → List ℕ → Bool
same = eq_by_cmp (slice_cmp nat_cmp)

-- the lists, each put in its place and once, as a map that holds nothing at each
abbrev pub gathered : List (List ℕ) → List (List ℕ × ⊤)
gathered [] = []
gathered (p ∷ ps) = put (slice_cmp nat_cmp) p tt (gathered ps)

-- the non-empty prefixes of a list
abbrev pub fronts : List ℕ → List (List ℕ)
fronts [] = []
fronts (a ∷ p) = (a ∷ []) ∷ map (λ q. a ∷ q) (fronts p)

-- what a list has next after p
abbrev pub next_after : List ℕ → List ℕ → Option ℕ
next_after [] [] = None
next_after [] (b ∷ q) = Some b
next_after (a ∷ p) [] = None
next_after (a ∷ p) (b ∷ q) = cond (eqb a b) (next_after p q) None

abbrev pub longer : List ℕ → Option (List ℕ) → List ℕ
longer p None = p
longer p (Some q) = cond (leb (length p) (length q)) q p

abbrev pub longest : List (List ℕ) → Option (List ℕ)
longest [] = None
longest (p ∷ ps) = Some (longer p (longest ps))

abbrev pub shorter : List ℕ → Option (List ℕ) → List ℕ
shorter p None = p
shorter p (Some q) = cond (leb (length p) (length q)) p q

abbrev pub shortest : List (List ℕ) → Option (List ℕ)
shortest [] = None
shortest (p ∷ ps) = Some (shorter p (shortest ps))

module _ {P : Type 0} where
  -- the non-empty prefixes of stored lists, in rising order
  abbrev pub prefixes : List (List ℕ × P) → List (List ℕ)
  prefixes m = stored (gathered (flat_map fronts (stored m)))

  -- what stored lists have next after p
  abbrev pub nexts : List (List ℕ × P) → List ℕ → List ℕ
  nexts m p = filter_map (next_after p) (stored m)

  abbrev pub is_point : List (List ℕ × P) → List ℕ → Bool
  is_point m p =
      same p [] || (list_any (same p) (stored m)
      || list_any (λ a. list_any (λ b. not (eqb a b)) (nexts m p)) (nexts m p))

  abbrev pub points : List (List ℕ × P) → List (List ℕ)
  points m = filter (is_point m) ([] ∷ prefixes m)

  -- how many points there are, and how many nibbles their fragments hold
  abbrev pub footprint : List (List ℕ × P) → ℕ × ℕ
  footprint m = (length (points m), length (prefixes m))

  abbrev pub ancestor : List (List ℕ × P) → List ℕ → Option (List ℕ)
  ancestor m e = longest (filter (λ p. is_prefix p e) (stored m))

  abbrev pub raw_ancestor : List (List ℕ × P) → List ℕ → List ℕ
  raw_ancestor m e = unwrap_or (longest (filter (λ p. is_prefix p e) (points m))) []

  abbrev pub raw_descendant : List (List ℕ × P) → List ℕ → Option (List ℕ)
  raw_descendant m e = shortest (filter (is_prefix e) (points m))

  -- the longest point strictly above p
  abbrev pub parent : List (List ℕ × P) → List ℕ → List ℕ
  parent m p = unwrap_or
      (longest (filter (λ q. is_prefix q p) (filter (λ q. not (same q p)) (points m)))) []

  abbrev pub fragment : List (List ℕ × P) → List ℕ → List ℕ
  fragment m p = drop (length (parent m p)) p

  -- the prefixes of stored lists that are p and one nibble more
  abbrev pub steps : List (List ℕ × P) → List ℕ → List (List ℕ)
  steps m p = filter (λ q. is_prefix p q && eqb (length q) (suc (length p))) (prefixes m)

  abbrev pub children : List (List ℕ × P) → List ℕ → List (List ℕ)
  children m p = filter_map (raw_descendant m) (steps m p)

  -- the longest prefix of e that is empty or a prefix of a stored list
  abbrev pub met : List (List ℕ × P) → List ℕ → List ℕ
  met m e = unwrap_or (longest (filter (λ p. is_prefix p e) ([] ∷ prefixes m))) []

  abbrev pub compared : List (List ℕ × P) → List ℕ → ℕ
  compared m e = length (met m e) + cond (same (met m e) e || is_point m (met m e)) 0 1

  abbrev pub visited : List (List ℕ × P) → List ℕ → ℕ
  visited m e = length (filter (λ p. is_prefix p e) (points m))
