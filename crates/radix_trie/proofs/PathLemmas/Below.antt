-- The pairs below a list.
use Rattle.std.proofs.Common.{◌≡◌, ℕ, List, [], Some, None, map as each, length, ap, ◌∙◌, sym}
use Rattle.std.proofs.lemmas.List.{length-map}
use Rattle.std.specs.FinMap as map
use Rattle.nibble_map.specs.MapQueries.{IsRawDescendant}
use Rattle.nibble_map.specs.Maps.{PairMap, below}
use Rattle.nibble_map.proofs.MapLemmas.Bridge.{from_sorted-nil}
use Rattle.nibble_map.proofs.PointLemmas.Descendant.{below-descendant, below-no_descendant}
use Rattle.radix_trie.specs.Views.{pairs_below}

module _ {K V : Type 0} (m : PairMap K V) where
  -- they are as many as the map below the list has entries
  pub len-pairs_below : (q : List ℕ) → map.len (below m q) ≡ length (pairs_below m q)
  len-pairs_below q = map.len-entries (below m q) ∙ sym (length-map (map.entries (below m q)) (λ e. e.1))

  -- they are those below the shortest point that the list begins
  pub pairs_below-shortest : (e q : List ℕ) → IsRawDescendant m e (Some q) → pairs_below m q ≡ pairs_below m e
  pairs_below-shortest e q is = ap (λ n. each (λ e. e.1) (map.entries n)) (sym (below-descendant m e q is))

  -- there are none where the list begins no point
  pub pairs_below-none : (e : List ℕ) → IsRawDescendant m e None → pairs_below m e ≡ []
  pairs_below-none e is =
      ap (λ n. each (λ e. e.1) (map.entries n)) (below-no_descendant m e is ∙ sym (from_sorted-nil _))
      ∙ ap (each (λ e. e.1)) (map.entries-from_sorted _ [] tt)
