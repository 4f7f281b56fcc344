-- Pairs whose codes rise, stored one by one, and those of a whole trie.
use Rattle.std.proofs.Common.{◌≡◌, ℕ, List, [], ◌∷◌, fold, length, refl, sym, ap, ◌∙◌}
use Rattle.std.proofs.lemmas.List.{length-map}
use Rattle.std.specs.Cmp.Lexicographic.{slice_cmp}
use Rattle.std.specs.FinMap as fin
use Rattle.std.specs.Ordering.{nat_cmp}
use Rattle.nibble_map.specs.Lists.{IsRising}
use Rattle.nibble_map.specs.Maps.{PairMap, below, walk, without_below}
use Rattle.nibble_map.proofs.MapLemmas.Bridge.{from_sorted-nil}
use Rattle.nibble_map.proofs.MapLemmas.Rebuilt.{put_rows-entries}
use Rattle.radix_trie.specs.Building.{with_pairs}
use Rattle.radix_trie.specs.Views.{pairs_below}
use Rattle.radix_trie.proofs.PathLemmas.Loci.{below-nil, without_below-nil}
use Rattle.frozen_trie.specs.Frozen.{codes_of, coded_pairs, map_of_pairs}
use Rattle.frozen_trie.proofs.FrozenLemmas.Rows.{entries_are_rows}

module _ {K V : Type 0} (enc : K → List ℕ) where
  -- storing rows is storing their pairs
  stored_one_by_one : (ps : List (K × V)) (m : PairMap K V) → fold (λ n e. fin.insert n e.0 e.1) m (coded_pairs enc ps) ≡ with_pairs enc m ps
  stored_one_by_one [] m = refl
  stored_one_by_one (p ∷ ps) m = stored_one_by_one ps (fin.insert m (enc p.0) p)

  -- the map of pairs whose codes rise is the empty map with each stored, one by one
  pub map_of_is_stored : (ps : List (K × V)) → IsRising (codes_of enc ps) → with_pairs enc fin.empty ps ≡ map_of_pairs enc ps
  map_of_is_stored ps h =
      sym (stored_one_by_one ps fin.empty) ∙ ap (fold (λ n e. fin.insert n e.0 e.1) fin.empty) (sym (entries_are_rows enc ps h)) ∙ put_rows-entries (map_of_pairs enc ps)

-- no pair is the empty map
pub no_pair_map : {K V : Type 0} (enc : K → List ℕ) (ps : List (K × V)) → ps ≡ [] → map_of_pairs enc ps ≡ fin.empty
no_pair_map enc ps e = ap (map_of_pairs enc) e ∙ from_sorted-nil (slice_cmp nat_cmp)

module _ {K V : Type 0} (m : PairMap K V) where
  -- the map counts all its pairs
  pub count_whole : length (pairs_below m []) ≡ fin.len m
  count_whole = length-map (walk m []) _ ∙ sym (fin.len-entries (below m [])) ∙ ap fin.len (below-nil m)

  -- the pairs of a whole map make it again, where each is stored at its key's code
  pub whole_again : (enc : K → List ℕ) → IsRising (codes_of enc (pairs_below m []))
      → with_pairs enc (without_below m []) (pairs_below (below m []) []) ≡ m → map_of_pairs enc (pairs_below m []) ≡ m
  whole_again enc h e =
      sym (map_of_is_stored enc (pairs_below m []) h)
      ∙ ap (λ n. with_pairs enc n (pairs_below m [])) (sym (without_below-nil m))
      ∙ ap (λ n. with_pairs enc (without_below m []) (pairs_below n [])) (sym (below-nil m)) ∙ e
