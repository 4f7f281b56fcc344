-- What two maps hold together, by their entries.
use Rattle.std.proofs.Common.{◌≡◌, ℕ, true, false, not, List, [], ◌∷◌, ◌++◌, drop, slice_get, Option, Some, None, Bor, is_some, option_map, map as each, nat_cmp, refl, sym, ap, ◌∙◌}
use Rattle.std.proofs.lemmas.Cmp.{nat_list_cmp_total}
use Rattle.std.proofs.lemmas.Simd.{map-map}
use Rattle.std.specs.Cmp.Lexicographic.{slice_cmp}
use Rattle.std.specs.FinMap as map
use Rattle.std.specs.FinMap.{put}
use Rattle.std.specs.FinMap.Entries.{where_key}
use Rattle.masked_tree.specs.Tree.{Tree, entries_in}
use Rattle.nibble_map.specs.Lists.{is_prefix}
use Rattle.nibble_map.specs.Maps.{NibbleMap, PairMap, walk}
use Rattle.nibble_map.specs.Swaps.{entry}
use Rattle.nibble_map.proofs.ListLemmas.Cut.{empty_of_length}
use Rattle.nibble_map.proofs.ListLemmas.Sorted.{tied_lists_equal}
use Rattle.nibble_map.proofs.MapLemmas.Bridge.{entries-retain_keys}
use Rattle.radix_nodes.specs.declared.trie_node.KeyValue.{KeyValue}
use Rattle.radix_nodes.specs.Pairs.{pair_of, pairs_of}
use Rattle.radix_trie.specs.declared.iter.combination.Operation.{Operation}
use Rattle.radix_trie.specs.declared.iter.combination.Operation.TheVariants as operation
use Rattle.radix_trie.specs.Combinations.{combined_entries, entries_of_node, found_first, merged_entries, picked}
use Rattle.radix_trie.specs.Roots.{IsRoot}
use Rattle.radix_trie.specs.Sets.{combined, common, joined, lacking, with_entries}
use Rattle.radix_trie.specs.Views.{pairs_below}
use Rattle.radix_trie.proofs.CombinationLemmas.Lists.{combined-moved}
use Rattle.radix_trie.proofs.RootLemmas.Held.{entries-root}
use Rattle.radix_trie.proofs.RootLemmas.Shown.{row_of}

module _ {P : Type 0} where
  entries-common : (m n : NibbleMap P) → map.entries (common m n) ≡ picked true (map.entries m) (map.entries n)
  entries-common m n =
      entries-retain_keys (slice_cmp nat_cmp) nat_list_cmp_total tied_lists_equal m (λ e. map.contains_key n e)
      ∙ (λ i. where_key (slice_cmp nat_cmp) (λ q. is_some (map.get-entries n q i)) (map.entries m))

  entries-lacking : (m n : NibbleMap P) → map.entries (lacking m n) ≡ picked false (map.entries m) (map.entries n)
  entries-lacking m n =
      entries-retain_keys (slice_cmp nat_cmp) nat_list_cmp_total tied_lists_equal m (λ e. not (map.contains_key n e))
      ∙ (λ i. where_key (slice_cmp nat_cmp) (λ q. not (is_some (map.get-entries n q i))) (map.entries m))

  entries-with_entries : (es : List (List ℕ × P)) (n : NibbleMap P) → map.entries (with_entries es n) ≡ merged_entries es (map.entries n)
  entries-with_entries [] n = refl
  entries-with_entries (e ∷ es) n =
      map.entries-insert nat_list_cmp_total (with_entries es n) e.0 e.1 ∙ ap (put (slice_cmp nat_cmp) e.0 e.1) (entries-with_entries es n)

  entries-joined : (m n : NibbleMap P) → map.entries (joined m n) ≡ merged_entries (map.entries m) (map.entries n)
  entries-joined m n = entries-with_entries (map.entries m) n

  -- the entries of what an operation makes of two maps are what it makes of their entries
  entries-combined : (op : Operation) (m n : NibbleMap P) → map.entries (combined op m n) ≡ combined_entries op (map.entries m) (map.entries n)
  entries-combined operation.Union m n = entries-joined m n
  entries-combined operation.Intersection m n = entries-common m n
  entries-combined operation.Difference m n = entries-lacking m n
  entries-combined operation.SymmetricDifference m n =
      entries-joined (lacking m n) (lacking n m) ∙ (λ i. merged_entries (entries-lacking m n i) (entries-lacking n m i))

  all_begun : (es : List (List ℕ × P)) → where_key (slice_cmp nat_cmp) (is_prefix []) es ≡ es
  all_begun [] = refl
  all_begun (e ∷ es) = ap (λ xs. e ∷ xs) (all_begun es)

  -- the walk below the empty list is over all entries
  pub whole_walk : (m : NibbleMap P) → walk m [] ≡ map.entries m
  whole_walk m = entries-retain_keys (slice_cmp nat_cmp) nat_list_cmp_total tied_lists_equal m (is_prefix []) ∙ all_begun (map.entries m)

  -- a map without pairs has no entry
  entries_none : (m : NibbleMap P) → map.len m ≡ 0 → map.entries m ≡ []
  entries_none m empty = empty_of_length (map.entries m) (sym (map.len-entries m) ∙ empty)

  none_combined : (op : Operation) → combined_entries {P = P} op [] [] ≡ []
  none_combined operation.Union = refl
  none_combined operation.Intersection = refl
  none_combined operation.Difference = refl
  none_combined operation.SymmetricDifference = refl

module _ {K V : Type 0} where
  -- the pairs of what an operation makes of two maps
  pairs-combined : (op : Operation) (m n : PairMap K V) → pairs_below (combined op m n) [] ≡ each (λ e. e.1) (combined_entries op (map.entries m) (map.entries n))
  pairs-combined op m n = ap (each (λ e. e.1)) (whole_walk (combined op m n) ∙ entries-combined op m n)

  -- two maps without pairs have none together
  pub combined_none : (op : Operation) (m n : PairMap K V) → map.len m ≡ 0 → map.len n ≡ 0 → pairs_below (combined op m n) [] ≡ []
  combined_none op m n empty other =
      pairs-combined op m n ∙ ap (each (λ e. e.1)) ((λ i. combined_entries op (entries_none m empty i) (entries_none n other i)) ∙ none_combined op)

  module _ (enc : K → List ℕ) where
    root_entries : (m : PairMap K V) (t : Tree (KeyValue K V)) → IsRoot enc m t → map.entries m ≡ each row_of (entries_of_node t)
    root_entries m t root = entries-root enc m t root ∙ ap (λ f. each row_of (entry f t.pair ++ entries_in f t.children)) root.top

    -- the roots of two maps have their pairs together
    pub combined_roots : (op : Operation) (m n : PairMap K V) (t u : Tree (KeyValue K V)) → IsRoot enc m t → IsRoot enc n u
        → pairs_of (combined_entries op (entries_of_node t) (entries_of_node u)) ≡ pairs_below (combined op m n) []
    combined_roots op m n t u one two =
        sym (pairs-combined op m n
        ∙ ap (each (λ e. e.1)) ((λ i. combined_entries op (root_entries m t one i) (root_entries n u two i)) ∙ combined-moved (λ q. q) (λ p q. refl) pair_of op (entries_of_node t) (entries_of_node u))
        ∙ map-map (λ e. e.1) row_of (combined_entries op (entries_of_node t) (entries_of_node u)))

  -- what is found first, and what is left then, are the whole
  pub found_first-step : (o : Option (Bor (KeyValue K V))) (ps : List (K × V)) → option_map (λ p. pair_of p.now) o ≡ slice_get ps 0 → found_first o (drop 1 ps) ≡ ps
  found_first-step None [] found = refl
  found_first-step None (p ∷ ps) found = absurd (let never : None ≡ Some p = found in cc)
  found_first-step (Some x) [] found = absurd (let never : Some (pair_of x.now) ≡ None = found in cc)
  found_first-step (Some x) (p ∷ ps) found = (let is : Some (pair_of x.now) ≡ Some p = found in let same : pair_of x.now ≡ p = cc in ap (λ y. y ∷ ps) same)
