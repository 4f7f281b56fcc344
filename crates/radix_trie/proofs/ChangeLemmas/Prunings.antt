-- What a cut of a whole branch does to the map, and to what the trie keeps.
use Rattle.std.proofs.Common.{◌≡◌, ℕ, ◌+◌, ◌-◌, ◌≤◌, ◌<◌, ◌^◌, List, [], ◌∷◌, ◌++◌, T, is_some, map, filter, drop, length, refl, ap, sym, subst, ◌∙◌, arith, append-nil}
use Rattle.std.proofs.lemmas.List.{length-map}
use Rattle.std.specs.FinMap as fin
use Rattle.masked_tree.specs.Tree.{Tree, entries_at, entries_in}
use Rattle.masked_tree.specs.Paths.{IsPath}
use Rattle.nibble_map.specs.Lists.{IsPrefix, is_prefix}
use Rattle.nibble_map.specs.Maps.{IsPoint, IsStored, below, without_below, walk}
use Rattle.nibble_map.specs.Swaps.{Swaps, entry}
use Rattle.nibble_map.proofs.MapLemmas.Below.{get-below}
use Rattle.masked_tree.proofs.TreeLemmas.Sizes.{length-entries_at}
use Rattle.nibble_map.proofs.ListLemmas.Parted.{is_prefix_true, prefix_through, reached_past}
use Rattle.masked_tree.specs.Alters.{PrunesRoot, all_of, none_of}
use Rattle.nibble_map.proofs.MapLemmas.Without.{from_sorted-run_cut, without_below-nothing}
use Rattle.radix_nodes.specs.Prunes.{IsSmall, IsBranch}
use Rattle.radix_nodes.specs.Pairs.{pair_of, pairs_in}
use Rattle.radix_nodes.specs.declared.trie_node.KeyValue.{KeyValue}
use Rattle.radix_nodes.specs.declared.trie_node.TrieNode.{TrieNode}
use Rattle.radix_nodes.specs.Nodes.{tree_of, fragment_of, IsNearest}
use Rattle.radix_nodes.proofs.NodeLemmas.Nodes.{fragment-tree_of}
use Rattle.radix_nodes.proofs.NodeLemmas.Pairs.{length-pairs_of}
use Rattle.radix_nodes.proofs.SearchLemmas.Nearest.{nearest_here}
use Rattle.radix_trie.specs.Roots.{entries_of, map_of, IsRoot, IsKept}
use Rattle.radix_trie.specs.Views.{pairs_below}
use Rattle.radix_trie.proofs.ChangeLemmas.Changes.{run_change, length-run_change, run_kept, nodes_fit, nibbles_within}
use Rattle.radix_trie.proofs.PathLemmas.Parts.{entries_under-node}
use Rattle.radix_trie.proofs.RootLemmas.Paths.{node_point}
use Rattle.radix_trie.proofs.PathLemmas.NodesBelow.{filter-map, path_leads, pairs_in-node, walk-no_path}
use Rattle.radix_trie.proofs.PathLemmas.Loci.{below-nil}
use Rattle.radix_trie.proofs.RootLemmas.Shown.{row_of, entries_of-root, entries_rise, kept_root, len-map_of_kept}

-- where nothing is below a list none is stored there
pub nothing_stored_below : {P : Type 0} (m : fin.FinMap _ P) (p e : List ℕ) → IsStored m e → IsPrefix p e → fin.len (below m p) ≡ 0 → ⊥
nothing_stored_below m p e stored i none =
    let here : T (is_prefix p e) = subst T (sym (is_prefix_true p e i)) tt in
    subst (λ o. T (is_some o)) (sym (get-below m p e here) ∙ ap (λ n. fin.get n e) (fin.empty_of_len (below m p) none) ∙ fin.get-empty _ e) stored

-- a point below a list that isn't empty leads to a stored one
pub point_below_has_stored : {P : Type 0} (m : fin.FinMap _ P) (p q : List ℕ) → 0 < length p → IsPoint m q → IsPrefix p q → fin.len (below m p) ≡ 0 → ⊥
point_below_has_stored m [] q some at i none = absurd (omega (arith, some))
point_below_has_stored m (a ∷ p) q some at i none =
    let r = reached_past (IsStored m) q [] a (p ++ i.0) i.1 at in
    nothing_stored_below m (a ∷ p) r.0 r.1 (prefix_through (a ∷ p) q r.0 i r.2) none

-- the root as a branch of itself
pub root_branch : {K V : Type 0} (n : TrieNode K V) → (tree_of n).fragment ≡ [] → IsBranch (tree_of n) (tree_of n) [] []
root_branch n top =
    let f : fragment_of n ≡ [] = sym (fragment-tree_of n) ∙ top in
    record {
      covered = 0;
      nearest = subst (λ p. IsNearest (tree_of n) (tree_of n) p 0) (append-nil (fragment_of n) ∙ f) (nearest_here n [] 0 0 refl (sym (ap length f)));
      path = refl;
    }

-- a branch below the root by its whole list
pub branch_at : {K V : Type 0} (n : TrieNode K V) (u : Tree (KeyValue K V)) (list s : List ℕ) → (tree_of n).fragment ≡ [] → IsBranch (tree_of n) u (fragment_of n ++ list) s → IsBranch (tree_of n) u list s
branch_at n u list s top b = subst (λ p. IsBranch (tree_of n) u p s) (ap (λ f. f ++ list) (sym (fragment-tree_of n) ∙ top)) b

module _ {K V : Type 0} (enc : K → List ℕ) (old : Tree (KeyValue K V)) (count nodes nibbles : ℕ) (kept : IsKept enc old count nodes nibbles) where
  -- the tree is the root of its map
  abbrev the_root : IsRoot enc (map_of old) old
  the_root = kept_root enc old count nodes nibbles kept

  -- a kept root has as many entries as pairs are counted
  held_length : length (entries_at [] old) ≡ count
  held_length = sym (length-map (entries_at [] old) row_of) ∙ ap length (sym (entries_of-root old kept.top)) ∙ kept.counted

  -- what the root holds can be counted
  pub small_root : count < 2 ^ 64 → IsSmall old
  small_root small = record {
    pairs = omega (arith, held_length, small);
    nodes = let n = nodes_fit enc old count nodes nibbles kept in omega (arith, n, kept.noded, small);
    nibbles = let n = nibbles_within enc old count nodes nibbles kept small in let t = ap length kept.top in omega (arith, n, kept.nibbled, t);
  }

  -- a path below a list that isn't empty leads to a stored one
  pub path_below_has_stored : (p q : List ℕ) → 0 < length p → IsPath old q → IsPrefix p q → fin.len (below (map_of old) p) ≡ 0 → ⊥
  path_below_has_stored p q some at i none = point_below_has_stored (map_of old) p q some (node_point enc (map_of old) old the_root q at.0 at.1) i none

  -- where no point goes on from a list, no path does
  pub points_apart-paths : (p : List ℕ) → ((q : List ℕ) → IsPoint (map_of old) q → IsPrefix p q → ⊥) → (q : List ℕ) → IsPath old q → IsPrefix p q → ⊥
  points_apart-paths p apart q at i = apart q (node_point enc (map_of old) old the_root q at.0 at.1) i

  -- where no path goes on from a list, nothing is there to be removed
  module _ (p : List ℕ) (apart : (q : List ℕ) → IsPath old q → IsPrefix p q → ⊥) where
    -- where no path goes on from p, the walk from p is empty
    no_walk : walk (map_of old) p ≡ []
    no_walk = walk-no_path enc (map_of old) old the_root p apart

    -- where no path goes on from p, the map has no pairs at or below p
    pub nothing_below-pairs : [] ≡ pairs_below (map_of old) p
    nothing_below-pairs = sym (ap (map (λ e. e.1)) no_walk)

    -- where no path goes on from p, no pair is stored at or below p
    pub len-nothing_below : fin.len (below (map_of old) p) ≡ 0
    len-nothing_below = fin.len-entries (below (map_of old) p) ∙ ap length no_walk

    -- where no path goes on from p, the map of all at and below p is empty
    pub below-nothing_below : below (map_of old) p ≡ fin.empty
    below-nothing_below = fin.empty_of_len (below (map_of old) p) len-nothing_below

    -- where no path goes on from p, the map of the same tree is the map without all below p
    pub map_of-nothing_below : (new : Tree (KeyValue K V)) → new ≡ old → map_of new ≡ without_below (map_of old) p
    map_of-nothing_below new e = ap map_of e ∙ sym (without_below-nothing p (map_of old) len-nothing_below)

  -- where nothing is stored at or below the empty list, the root has no entry
  pub length-nothing_stored : fin.len (below (map_of old) []) ≡ 0 → length (entries_at [] old) ≡ 0
  length-nothing_stored none = held_length ∙ sym (len-map_of_kept enc old count nodes nibbles kept) ∙ ap fin.len (sym (below-nil (map_of old))) ∙ none

  -- a branch's pairs are the map's at and below its path, in order
  pub pairs_in-branch : (p s : List ℕ) (u : Tree (KeyValue K V)) → IsBranch old u p s → pairs_in u ≡ pairs_below (map_of old) p
  pairs_in-branch p s u branch = pairs_in-node enc (map_of old) old the_root p (p ++ drop branch.covered u.fragment) u branch.nearest.node branch.nearest.shortest

  -- a branch has as many entries as the map has pairs at and below its path
  pub length-branch_entries : (p s : List ℕ) (u : Tree (KeyValue K V)) → IsBranch old u p s → length (entries_at [] u) ≡ fin.len (below (map_of old) p)
  length-branch_entries p s u branch =
      let all = ap length (pairs_in-branch p s u branch) in
      let a = length-pairs_of (entries_at [] u) in
      let b = length-map (walk (map_of old) p) (λ e. e.1) in
      omega (arith, all, a, b, fin.len-entries (below (map_of old) p))

  module _ (new : Tree (KeyValue K V)) (p s : List ℕ) (u : Tree (KeyValue K V)) (m l : ℕ) (branch : IsBranch old u p s) (cut : PrunesRoot s u m l old new) where
    -- the path of the branch
    abbrev path : List ℕ
    path = p ++ drop branch.covered u.fragment

    -- the rows of the branch
    abbrev gone : List (List ℕ × (K × V))
    gone = map row_of (entries_at s u)

    -- the root's entries with the prefix p are those of the branch
    at_branch : filter (λ e. is_prefix p e.0) (entries_at [] old) ≡ entries_at s u
    at_branch =
        entries_under-node p old path u kept.masked branch.nearest.node (path_leads enc (map_of old) old the_root p path branch.nearest.shortest) branch.nearest.shortest.below
        ∙ ap (λ y. entry y u.pair ++ entries_in y u.children) (sym branch.path)

    -- the root's rows with the prefix p are those of the branch
    pub rows_chosen : filter (λ e. is_prefix p e.0) (entries_of old) ≡ gone
    rows_chosen = ap (filter (λ e. is_prefix p e.0)) (entries_of-root old kept.top) ∙ filter-map (λ (e : List ℕ × (K × V)). is_prefix p e.0) row_of (entries_at [] old) ∙ ap (map row_of) at_branch

    -- the pairs after the cut are the old ones without the branch's rows
    rows_swapped : Swaps gone [] (entries_of old) (entries_of new)
    rows_swapped = run_change enc old new count nodes nibbles (all_of s u) none_of 0 m 0 l kept cut

    -- after the cut the map is the old one without all below p
    pub map_of-pruned : map_of new ≡ without_below (map_of old) p
    map_of-pruned = from_sorted-run_cut p gone (entries_of old) (entries_of new) (entries_rise old kept.masked kept.full) rows_swapped rows_chosen

    -- the branch has as many rows as pairs
    gone_length : length gone ≡ length (pairs_in u)
    gone_length =
        let b = length-map (entries_at s u) row_of in
        let c = length-map (entries_at [] u) (λ e. pair_of e.1) in
        let d = length-entries_at s u in let e = length-entries_at [] u in
        omega (arith, b, c, d, e)

    -- the pairs after the cut and those of the branch are as many as were counted
    pairs_counted : length (entries_of new) + length (pairs_in u) ≡ count
    pairs_counted = let a = length-run_change enc old new count nodes nibbles (all_of s u) none_of 0 m 0 l kept cut in omega (arith, a, gone_length)

    -- the branch has no more pairs than were counted
    pruned_some : length (pairs_in u) ≤ count
    pruned_some = omega (arith, pairs_counted)

    -- no more nodes are cut than there were
    pruned_nodes : m ≤ nodes
    pruned_nodes = omega (arith, cut.alters.nodes, kept.noded)

    -- no more nibbles are cut than there were
    pruned_nibbles : l ≤ nibbles
    pruned_nibbles = let f = ap length cut.fragment in omega (arith, f, cut.alters.nibbles, kept.nibbled)

    -- after the cut the root is kept, without the counts of the branch
    pruned_kept : IsKept enc new (count - length (pairs_in u)) (nodes - m) (nibbles - l)
    pruned_kept =
        run_kept enc old new count nodes nibbles (all_of s u) none_of 0 m 0 l kept cut _ tt (omega (arith, pairs_counted, gone_length))
        (nodes - m) (nibbles - l) (omega (arith, pruned_nodes)) (omega (arith, pruned_nibbles))

    -- the same by the list that was returned
    module _ (pairs : List (K × V)) (is : pairs ≡ pairs_in u) where
      -- no more pairs are returned than were counted
      pub handed_pairs_counted : length pairs ≤ count
      handed_pairs_counted = let e = ap length is in omega (arith, e, pruned_some)

      -- after the cut the root is kept, with the count without the pairs returned
      pub handed_pairs_kept : (n : ℕ) → n ≡ length pairs → IsKept enc new (count - n) (nodes - m) (nibbles - l)
      handed_pairs_kept n e = subst (λ k. IsKept enc new (count - k) (nodes - m) (nibbles - l)) (sym (e ∙ ap length is)) pruned_kept

      -- the pairs returned are the old map's at and below p, in order
      pub handed_pairs_below : pairs ≡ pairs_below (map_of old) p
      handed_pairs_below = is ∙ pairs_in-branch p s u branch
