-- Where a contract sees the keys of a trie as something else, its map is the trie's mapped, and answers as that does.
use Rattle.std.proofs.Common.{◌≡◌, ℕ, List, [], ◌∷◌, Option, Some, None, option_map, map as each, length, refl, ap, ◌∙◌, sym}
use Rattle.std.specs.FinMap as map
use Rattle.nibble_map.specs.Computed.{ancestor, points, prefixes}
use Rattle.nibble_map.specs.Lists.{Counts, is_prefix}
use Rattle.nibble_map.specs.Maps.{PairMap, IsPoint, IsSomePrefix, IsStored, below, mapped, value_at}
use Rattle.nibble_map.specs.Points as points
use Rattle.nibble_map.specs.Stored as stored
use Rattle.nibble_map.proofs.ComputedLemmas.Answers.{ancestor_is}
use Rattle.nibble_map.proofs.ComputedLemmas.Points.{points_list}
use Rattle.nibble_map.proofs.ComputedLemmas.Prefixes.{prefixes_list}
use Rattle.nibble_map.proofs.ListLemmas.Parted.{ancestor_unique}
use Rattle.nibble_map.proofs.ListLemmas.Unique.{Counts-unique}
use Rattle.nibble_map.proofs.MapLemmas.Edits.{stored_by_entries}
use Rattle.nibble_map.proofs.MapLemmas.Mapped.{entries-mapped, get-mapped, mapped-retain_keys, mapped_stored}
use Rattle.nibble_map.proofs.PointLemmas.Moves.{Within, ancestor_moves, lists_moves, point_moves, some_prefix_moves}
use Rattle.radix_trie.specs.Views.{IsValueAbove, pairs_below, value_of}

-- the pairs of entries, mapped
each-mapped : {P Q : Type 0} (g : P → Q) (es : List (List ℕ × P)) → each (λ (d : List ℕ × Q). d.1) (each (λ e. (e.0, g e.1)) es) ≡ each g (each (λ e. e.1) es)
each-mapped g [] = refl
each-mapped g (e ∷ es) = ap (λ l. g e.1 ∷ l) (each-mapped g es)

module _ {K L V : Type 0} (f : K → L) where
  -- a pair with its key as f sees it
  abbrev pub seen : K × V → L × V
  seen p = (f p.0, p.1)

  module _ (m : PairMap K V) where
    stored_in : Within (IsStored m) (stored.IsStored (map.entries (mapped seen m)))
    stored_in e h = (stored_by_entries (mapped seen m) e).1 ((mapped_stored seen m e).1 h)

    stored_from : Within (stored.IsStored (map.entries (mapped seen m))) (IsStored m)
    stored_from e h = (mapped_stored seen m e).0 ((stored_by_entries (mapped seen m) e).0 h)

    -- the same value at each list
    pub value_at-mapped : (e : List ℕ) → value_at (mapped seen m) e ≡ value_at m e
    value_at-mapped e = ap (option_map (λ p. p.1)) (get-mapped seen m e) ∙ same (map.get m e)
      where
        same : (o : Option (K × V)) → option_map (λ p. p.1) (option_map seen o) ≡ option_map (λ p. p.1) o
        same None = refl
        same (Some p) = refl

    value_of-mapped : (a : Option (List ℕ)) → value_of m a ≡ value_of (mapped seen m) a
    value_of-mapped None = refl
    value_of-mapped (Some e) = sym (value_at-mapped e)

    -- the value of the nearest stored list above
    pub ancestor-mapped : (e : List ℕ) (v : Option V) → IsValueAbove m e v → v ≡ value_of (mapped seen m) (ancestor (map.entries (mapped seen m)) e)
    ancestor-mapped e v (a, is, same) =
        same ∙ value_of-mapped a
        ∙ ap (value_of (mapped seen m)) (ancestor_unique (stored.IsStored (map.entries (mapped seen m))) e _ _ (ancestor_moves _ _ stored_in stored_from e a is) (ancestor_is (map.entries (mapped seen m)) e))

    -- the pairs below a list
    pub pairs_below-mapped : (e : List ℕ) → pairs_below (mapped seen m) e ≡ each seen (pairs_below m e)
    pairs_below-mapped e = ap (λ n. each (λ e. e.1) (map.entries n)) (sym (mapped-retain_keys seen m (is_prefix e))) ∙ ap (each (λ e. e.1)) (entries-mapped seen (below m e)) ∙ each-mapped seen (map.entries (below m e))

    moved : (S T : List ℕ → Type 0) → Within S T → Within T S → (n : ℕ) → Counts S n → Counts T n
    moved S T to from n c = record { list = c.list; lists = lists_moves S T to from c.list c.lists; length_is = c.length_is }

    -- as many points
    pub points-mapped : (n : ℕ) → Counts (IsPoint m) n → n ≡ length (points (map.entries (mapped seen m)))
    points-mapped n c =
        Counts-unique (points.IsPoint (stored.IsStored (map.entries (mapped seen m)))) _ _
        (moved _ _ (point_moves _ _ stored_in) (point_moves _ _ stored_from) n c)
        (record { list = points (map.entries (mapped seen m)); lists = points_list (map.entries (mapped seen m)); length_is = refl })

    -- and as many prefixes
    pub prefixes-mapped : (n : ℕ) → Counts (IsSomePrefix m) n → n ≡ length (prefixes (map.entries (mapped seen m)))
    prefixes-mapped n c =
        Counts-unique (points.IsSomePrefix (stored.IsStored (map.entries (mapped seen m)))) _ _
        (moved _ _ (some_prefix_moves _ _ stored_in) (some_prefix_moves _ _ stored_from) n c)
        (record { list = prefixes (map.entries (mapped seen m)); lists = prefixes_list (map.entries (mapped seen m)); length_is = refl })
