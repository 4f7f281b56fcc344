-- The map of rows, and the rows of a map.
use Rattle.std.proofs.Common.{◌≡◌, ℕ, ◌+◌, ◌<◌, List, [], ◌∷◌, ◌++◌, length, take, get_or, map as each, refl, sym, ap, subst, ◌∙◌}
use Rattle.std.proofs.lemmas.List.{take_more}
use Rattle.std.proofs.lemmas.List.Sums.{fold-append}
use Rattle.std.specs.FinMap as fin
use Rattle.nibble_map.specs.Lists.{Each, IsRising}
use Rattle.nibble_map.specs.Maps.{PairMap, below, walk}
use Rattle.nibble_map.proofs.ListLemmas.Rising.{Each-from_has}
use Rattle.nibble_map.proofs.MapLemmas.Edits.{keys_list_stored}
use Rattle.nibble_map.proofs.MapLemmas.Rebuilt.{put_rows, put_rows-entries}
use Rattle.nibble_map.proofs.MapLemmas.Walks.{Has-walk}
use Rattle.radix_keys.specs.Networks.{Net}
use Rattle.radix_trie.specs.Building.{with_pairs}
use Rattle.radix_trie.specs.Keys.{IsKeyed}
use Rattle.radix_trie.specs.Views.{pairs_below}
use Rattle.radix_trie.proofs.PathLemmas.Loci.{below-nil}
use Rattle.frozen_routes.specs.Routes.{AreRowsInOrder}
use Rattle.frozen_trie.specs.Frozen.{codes_of, coded_pairs, map_of_pairs}
use Rattle.frozen_trie.proofs.FrozenLemmas.Queries.{whole_is}
use Rattle.frozen_trie.proofs.FrozenLemmas.Rows.{entries_are_rows, stored_rows}
use Rattle.frozen_trie.proofs.FrozenLemmas.Whole.{map_of_is_stored}
use Rattle.frozen_networks.specs.Networks.{IsMapOfNetworks, IsNetwork, network_code, network_map}
use Rattle.frozen_networks.proofs.OrderLemmas.{rising_rows, rows_rise}

module _ {K V : Type 0} (enc : K → List ℕ) where
  -- a copy of one pair more is stored behind those so far
  pub one_pair_stored : (ps : List (K × V)) (i : ℕ) (p : K × V) (copy : V) (m n : PairMap K V) → i < length ps → p ≡ get_or ps i p → copy ≡ p.1
      → m ≡ with_pairs enc fin.empty (take i ps) → n ≡ fin.insert m (enc p.0) (p.0, copy) → n ≡ with_pairs enc fin.empty (take (i + 1) ps)
  one_pair_stored ps i p copy m n inside at same so_far put =
      put ∙ ap (λ v. fin.insert m (enc p.0) (p.0, v)) same ∙ ap (λ x. fin.insert x (enc p.0) p) so_far
      ∙ sym (fold-append (λ x q. fin.insert x (enc q.0) q) fin.empty (take i ps) (p ∷ []))
      ∙ ap (with_pairs enc fin.empty) (ap (λ q. take i ps ++ q ∷ []) at ∙ sym (take_more ps i p inside))

module _ {K V : Type 0} (enc : K → List ℕ) (is : K → Type 0) where
  -- entries at their keys' codes are their pairs, each with its code
  coded_again : (es : List (List ℕ × (K × V))) → Each (λ e. (e.0 ≡ enc e.1.0) × is e.1.0) es → coded_pairs enc (each (λ e. e.1) es) ≡ es
  coded_again [] h = refl
  coded_again (e ∷ es) h = (let first = sym h.0.0 in let rest = coded_again es h.1 in λ i. (first i, e.1) ∷ rest i)

  -- and their keys are values
  values_again : (es : List (List ℕ × (K × V))) → Each (λ e. (e.0 ≡ enc e.1.0) × is e.1.0) es → Each (λ p. is p.0) (each (λ e. e.1) es)
  values_again [] h = tt
  values_again (e ∷ es) h = (h.0.1, values_again es h.1)

  module _ (m : PairMap K V) (keyed : IsKeyed enc is m) where
    -- each entry of a map stands at its key's code
    keyed_walk : Each (λ e. (e.0 ≡ enc e.1.0) × is e.1.0) (walk m [])
    keyed_walk = Each-from_has (λ e. (e.0 ≡ enc e.1.0) × is e.1.0) (walk m []) (λ e h. keyed e.0 e.1 ((Has-walk m [] e.0 e.1).0 h).1)

    -- the keys of all pairs are values
    pub pairs_are_values : Each (λ p. is p.0) (pairs_below m [])
    pairs_are_values = values_again (walk m []) keyed_walk

    -- the codes of all pairs rise
    pub pairs_rise : IsRising (codes_of enc (pairs_below m []))
    pairs_rise =
        subst IsRising (ap (each (λ e. e.0)) (sym (coded_again (walk m []) keyed_walk)) ∙ stored_rows enc (pairs_below m [])) (keys_list_stored (below m [])).rising

    -- the map of all pairs is the map
    pub pairs_again : map_of_pairs enc (pairs_below m []) ≡ m
    pairs_again =
        sym (put_rows-entries (map_of_pairs enc (pairs_below m [])))
        ∙ ap (put_rows fin.empty) (entries_are_rows enc (pairs_below m []) pairs_rise ∙ coded_again (walk m []) keyed_walk)
        ∙ put_rows-entries (below m []) ∙ below-nil m

module _ {A V : Type 0} (w : ℕ) (number : A → ℕ) where
  -- rows in order are those of their map
  pub rows_again : (rows : List (Net A × V)) → AreRowsInOrder w number rows → pairs_below (network_map w number rows) [] ≡ rows
  rows_again rows h = whole_is (network_code w number) rows (rows_rise w number rows h)

  -- stored one after the other they make it
  pub rows_stored : (rows : List (Net A × V)) → AreRowsInOrder w number rows → with_pairs (network_code w number) fin.empty rows ≡ network_map w number rows
  rows_stored rows h = map_of_is_stored (network_code w number) rows (rows_rise w number rows h)

  module _ (m : PairMap (Net A) V) (networks : IsMapOfNetworks w number m) where
    -- the map of a map's rows is the map
    pub map_again : network_map w number (pairs_below m []) ≡ m
    map_again = pairs_again (network_code w number) (IsNetwork w number) m networks

    -- a map's rows are in order
    pub map_in_order : AreRowsInOrder w number (pairs_below m [])
    map_in_order =
        rising_rows w number (pairs_below m []) (pairs_are_values (network_code w number) (IsNetwork w number) m networks)
        (pairs_rise (network_code w number) (IsNetwork w number) m networks)
