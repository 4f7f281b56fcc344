-- The pairs at and below a path whose lists pass a test, as those that come after a list, by the node that is nearest to the path.
use Rattle.std.proofs.Common.{◌≡◌, ℕ, Bool, false, List, [], ◌++◌, map, filter, drop, Option, Some, None, ap, sym, ◌∙◌, arith, Bor}
use Rattle.std.proofs.lemmas.List.{length-map}
use Rattle.std.proofs.lemmas.Simd.{map-map}
use Rattle.std.specs.Cmp.Lexicographic.{slice_cmp}
use Rattle.std.specs.FinMap as fin
use Rattle.std.specs.Ordering.{is_lt, nat_cmp}
use Rattle.masked_tree.specs.Tree.{entries_in}
use Rattle.nibble_map.specs.Maps.{PairMap, below, walk}
use Rattle.nibble_map.specs.Swaps.{entry}
use Rattle.nibble_map.proofs.ListLemmas.Cut.{empty_of_length}
use Rattle.radix_nodes.specs.declared.trie_node.KeyValue.{KeyValue}
use Rattle.radix_nodes.specs.declared.trie_node.TrieNode.{TrieNode}
use Rattle.radix_nodes.specs.Nodes.{fragment_of, tree_of}
use Rattle.radix_nodes.proofs.NodeLemmas.Nodes.{fragment-tree_of}
use Rattle.radix_trie.specs.Loci.{IsLocus}
use Rattle.radix_trie.specs.Views.{pairs_after}
use Rattle.radix_trie.specs.Walks.{pairs_where}
use Rattle.radix_trie.proofs.PathLemmas.NodesBelow.{filter-map, walk-no_path, walk-node}
use Rattle.radix_trie.proofs.PathLemmas.Loci.{length-filter_le, nearest_found, no_path_found}
use Rattle.radix_trie.proofs.RootLemmas.Shown.{row_of}
use Rattle.radix_trie.proofs.WalkLemmas.Tested.{where_behind, where_gone}

-- where nothing is stored at or below a path, there are no pairs after a list
pub no_pairs_after : {K V : Type 0} (m : PairMap K V) (p q : List ℕ) → fin.len (below m p) ≡ 0 → pairs_after m p q ≡ []
no_pairs_after {K} {V} m p q unstored =
    let later : List ℕ × (K × V) → Bool = λ e. is_lt (slice_cmp nat_cmp q e.0) in
    let few = length-filter_le later (walk m p) in
    empty_of_length (pairs_after m p q) (omega (arith, length-map (filter later (walk m p)) (λ e. e.1), few, fin.len-entries (below m p), unstored))

-- the pairs of the rows of entries whose lists pass a test
pub pairs_of-rows : {K V : Type 0} (test : List ℕ → Bool) (es : List (List ℕ × KeyValue K V)) → map (λ e. e.1) (filter (λ e. test e.0) (map row_of es)) ≡ pairs_where test es
pairs_of-rows {K} {V} test es =
    ap (map (λ e. e.1)) (filter-map (λ (e : List ℕ × (K × V)). test e.0) row_of es)
    ∙ map-map (λ e. e.1) row_of (filter (λ (e : List ℕ × KeyValue K V). test e.0) es)

module _ {K V : Type 0} (enc : K → List ℕ) (m : PairMap K V) (p : List ℕ) (found : Option (Bor (TrieNode K V) × ℕ)) (locus : IsLocus enc m p found) where
  -- the map's pairs at and below p whose lists pass a test
  abbrev pub passing : (List ℕ → Bool) → List (K × V)
  passing test = map (λ e. e.1) (filter (λ e. test e.0) (walk m p))

  -- where nothing was found for p, none pass
  pub nothing_found-passing : (test : List ℕ → Bool) → found ≡ None → [] ≡ passing test
  nothing_found-passing test e =
      sym (ap (λ es. map (λ e. e.1) (filter (λ e. test e.0) es)) (walk-no_path enc m locus.0 locus.1 p (no_path_found enc m p found locus e)))

  module _ (r : Bor (TrieNode K V)) (n : ℕ) (is : found ≡ Some (r, n)) where
    -- the found node's path
    abbrev pub whole : List ℕ
    whole = p ++ drop n (fragment_of r.now)

    whole_path : whole ≡ p ++ drop n (tree_of r.now).fragment
    whole_path = ap (λ f. p ++ drop n f) (sym (fragment-tree_of r.now))

    -- of the entries at and below the found node, those are left that pass
    at_node : (test : List ℕ → Bool) → pairs_where test (entry whole (tree_of r.now).pair ++ entries_in whole (tree_of r.now).children) ≡ passing test
    at_node test =
        let u = tree_of r.now in
        let x = p ++ drop n u.fragment in
        let near = nearest_found enc m p found locus r n is in
        ap (λ y. pairs_where test (entry y u.pair ++ entries_in y u.children)) whole_path
        ∙ sym (ap (λ rows. map (λ e. e.1) (filter (λ e. test e.0) rows)) (walk-node enc m locus.0 locus.1 p x u near.node near.shortest)
        ∙ pairs_of-rows test (entry x u.pair ++ entries_in x u.children))

    -- where nothing that the found node's path begins passes, none are left
    pub found_none : (test : List ℕ → Bool) → ((y : List ℕ) → test (whole ++ y) ≡ false) → [] ≡ passing test
    found_none test gone = sym (where_gone test whole (tree_of r.now) gone) ∙ at_node test

    -- where another test decides behind it, those are left that pass this one
    pub found_part : (test other : List ℕ → Bool) → ((y : List ℕ) → test (whole ++ y) ≡ other y)
        → pairs_where other (entry [] (tree_of r.now).pair ++ entries_in [] (tree_of r.now).children) ≡ passing test
    found_part test other alike = sym (where_behind test other whole alike (tree_of r.now).pair (tree_of r.now).children) ∙ at_node test
