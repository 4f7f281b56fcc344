-- What a trie that is grafted onto another does to its map, and to what it keeps.
use Rattle.std.proofs.Common.{◌≡◌, ℕ, ◌+◌, ◌-◌, ◌<◌, ◌≤◌, ◌^◌, None, List, [], ◌∷◌, ◌++◌, map, filter, length, Result, Ok, refl, ap, sym, subst, ◌∙◌, append-nil, arith}
use Rattle.std.specs.FinMap as fin
use Rattle.masked_tree.specs.Alters.{Grafts, all_of, none_of}
use Rattle.masked_tree.specs.Edits.{IsOne, merged, with_fragment}
use Rattle.masked_tree.specs.Paths.{IsVacant}
use Rattle.masked_tree.specs.Tree.{Tree, Children, none, more, entries_at, entries_in, nibbles_in, nodes_in}
use Rattle.nibble_map.specs.Lists.{Each, is_prefix}
use Rattle.nibble_map.specs.Maps.{NibbleMap, PairMap, IsStored, below, walk, without_below}
use Rattle.nibble_map.specs.Swaps.{Swaps, entry}
use Rattle.nibble_map.proofs.MapLemmas.Edits.{walk-by_entries}
use Rattle.nibble_map.proofs.MapLemmas.Rebuilt.{put_rows, put_rows-entries}
use Rattle.nibble_map.proofs.MapLemmas.Without.{from_sorted-run_cut, put_rows-walk, stored_without}
use Rattle.radix_nodes.specs.Grafts.{GraftRootOutcome}
use Rattle.radix_nodes.specs.Nodes.{fragment_of, tree_of}
use Rattle.radix_nodes.specs.declared.insertion.graft_root.Ungraftable.{Ungraftable}
use Rattle.radix_nodes.specs.declared.insertion.graft.Grafted.{Grafted}
use Rattle.radix_nodes.specs.declared.trie_node.KeyValue.{KeyValue}
use Rattle.radix_nodes.specs.declared.trie_node.TrieNode.{TrieNode}
use Rattle.radix_nodes.proofs.NodeLemmas.Nodes.{fragment-tree_of}
use Rattle.radix_trie.specs.Building.{with_pairs}
use Rattle.radix_trie.specs.Keys.{IsKeyed}
use Rattle.radix_trie.specs.Refusals.{AllBegin}
use Rattle.radix_trie.specs.Roots.{AllKeyed, IsKept, entries_of, map_of}
use Rattle.radix_trie.specs.Views.{pairs_below}
use Rattle.radix_trie.proofs.ChangeLemmas.Branches.{branch_kept, swapped_under}
use Rattle.radix_trie.proofs.ChangeLemmas.Changes.{nibbles_within, nodes_fit, run_change, run_kept}
use Rattle.radix_trie.proofs.ChangeLemmas.Keyed.{keyed_joined}
use Rattle.radix_trie.proofs.ChangeLemmas.Prunings.{nothing_stored_below}
use Rattle.radix_trie.proofs.LawLemmas.Parts.{stored-part}
use Rattle.radix_trie.proofs.PathLemmas.NodesBelow.{filter-map}
use Rattle.radix_trie.proofs.PathLemmas.Parts.{entries_under-free}
use Rattle.radix_trie.proofs.PathLemmas.Loci.{below-nil, no_pairs_below}
use Rattle.radix_trie.proofs.WalkLemmas.Keyed.{keyed_entries}
use Rattle.radix_trie.proofs.RootLemmas.Shown.{row_of, entries-map_of, entries_of-root, entries_rise}

module _ {P : Type 0} where
  -- the tree with other children
  abbrev pub over : Tree P → Children P → Tree P
  over t k = record { fragment = t.fragment; pair = t.pair; mask = t.mask; children = k }

  -- of a root that has an empty fragment, no pair and one child, the rows are those of the child
  only_rows : (t : Tree P) → t.fragment ≡ [] → t.pair ≡ None → IsOne t.children → entries_at (merged t).fragment (with_fragment [] (merged t)) ≡ entries_at [] t
  only_rows t top bare one = by t.children one
    where
      whole : (k : Children P) → entries_at [] (over t k) ≡ entries_in t.fragment k
      whole k = ap (λ o. entry t.fragment o ++ entries_in t.fragment k) bare

      by : (k : Children P) → IsOne k
          → entries_at (merged (over t k)).fragment (with_fragment [] (merged (over t k))) ≡ entries_at [] (over t k)
      by none one = absurd one
      by (more f o m ks (more g p n ls others)) one = absurd one
      by (more f o m ks none) one =
          ap (λ z. entry z o ++ entries_in z ks) (append-nil (t.fragment ++ f))
          ∙ sym (append-nil (entry (t.fragment ++ f) o ++ entries_in (t.fragment ++ f) ks))
          ∙ sym (whole (more f o m ks none))

  -- its nodes are itself, the child and those below it, and its nibbles those of the child's fragment and below
  pub only_nodes : (t : Tree P) → IsOne t.children → nodes_in t.children ≡ 1 + nodes_in (merged t).children
  only_nodes t one = by t.children one
    where
      by : (k : Children P) → IsOne k → nodes_in k ≡ 1 + nodes_in (merged (over t k)).children
      by none one = absurd one
      by (more f o m ks (more g p n ls others)) one = absurd one
      by (more f o m ks none) one = omega arith

  pub only_nibbles : (t : Tree P) → t.fragment ≡ [] → IsOne t.children → nibbles_in t.children ≡ length (merged t).fragment + nibbles_in (merged t).children
  only_nibbles t top one = by t.children one
    where
      by : (k : Children P) → IsOne k
          → nibbles_in k ≡ length (merged (over t k)).fragment + nibbles_in (merged (over t k)).children
      by none one = absurd one
      by (more f o m ks (more g p n ls others)) one = absurd one
      by (more f o m ks none) one = let e = ap (λ q. length (q ++ f)) top in omega (arith, e)

module _ {K V : Type 0} (enc : K → List ℕ) where
  -- rows that are keyed are put as their pairs are, one after another
  put_rows-keyed : (m : PairMap K V) (es : List (List ℕ × (K × V))) → Each (λ e. e.0 ≡ enc e.1.0) es → put_rows m es ≡ with_pairs enc m (map (λ e. e.1) es)
  put_rows-keyed m [] keyed = refl
  put_rows-keyed m (e ∷ es) keyed = ap (λ l. put_rows (fin.insert m l e.1) es) keyed.0 ∙ put_rows-keyed (fin.insert m (enc e.1.0) e.1) es keyed.1

  -- so are the rows of a walk
  put_rows-pairs : (m n : PairMap K V) (p : List ℕ) → AllKeyed enc (fin.entries n) → put_rows m (walk n p) ≡ with_pairs enc m (pairs_below n p)
  put_rows-pairs m n p keyed = put_rows-keyed m (walk n p) (keyed_entries enc n p keyed)

  -- the pairs below a list, put into the rest, make the map
  pub pairs_put_back : (m : PairMap K V) (p : List ℕ) → AllKeyed enc (fin.entries m) → with_pairs enc (without_below m p) (pairs_below (below m p) []) ≡ m
  pairs_put_back m p keyed =
      ap (λ n. with_pairs enc (without_below m p) (map (λ e. e.1) (fin.entries n))) (below-nil (below m p)) ∙ sym (put_rows-pairs (without_below m p) m p keyed) ∙ put_rows-walk p m

  -- all pairs of a trie, put into the map without pairs, are its map
  pub all_put : (m : PairMap K V) → AllKeyed enc (fin.entries m) → m ≡ with_pairs enc fin.empty (pairs_below m [])
  all_put m keyed =
      sym (put_rows-entries m) ∙ ap (λ n. put_rows fin.empty (fin.entries n)) (sym (below-nil m)) ∙ put_rows-pairs fin.empty m [] keyed

  -- with the pairs of a map without pairs, a map is as before, and nothing is stored in it
  pub none_put : (m n : PairMap K V) → fin.len n ≡ 0 → m ≡ with_pairs enc m (pairs_below n [])
  none_put m n empty = ap (with_pairs enc m) (sym (no_pairs_below n [] (ap fin.len (below-nil n) ∙ empty)))

-- nothing is stored in a map without pairs
pub none_stored : {P : Type 0} (m : NibbleMap P) (e : List ℕ) → fin.len m ≡ 0 → IsStored m e → ⊥
none_stored m e empty stored = nothing_stored_below m [] e stored (e, refl) (ap fin.len (below-nil m) ∙ empty)

-- a trie whose root has no pair and one child is grafted onto another
module _ {K V : Type 0} (enc : K → List ℕ) (old : Tree (KeyValue K V)) (count nodes nibbles : ℕ) (kept : IsKept enc old count nodes nibbles)
    (part : Tree (KeyValue K V)) (pairs held nibbled : ℕ) (owned : IsKept enc part pairs held nibbled) (bare : part.pair ≡ None) (one : IsOne part.children) where
  -- the child, its path, and the branch that is grafted there
  abbrev only : Tree (KeyValue K V)
  only = merged part

  abbrev path : List ℕ
  path = (merged part).fragment

  abbrev branch : Tree (KeyValue K V)
  branch = with_fragment [] (merged part)

  -- the branch's rows are those of the trie
  branch_rows : map row_of (entries_at path branch) ≡ entries_of part
  branch_rows = ap (map row_of) (only_rows part owned.top bare one) ∙ sym (entries_of-root part owned.top)

  -- each of them has the path in front
  rows_begin : filter (λ e. is_prefix path e.0) (entries_of part) ≡ entries_of part
  rows_begin =
      ap (filter (λ e. is_prefix path e.0)) (sym branch_rows)
      ∙ filter-map (λ (e : List ℕ × (K × V)). is_prefix path e.0) row_of (entries_at path branch)
      ∙ ap (map row_of) (branch_kept path path branch ([], sym (append-nil (path ++ [])) ∙ ap (λ q. q ++ []) (append-nil path)))
      ∙ branch_rows

  -- all lists of the trie begin with the path
  pub part_begins : AllBegin (map_of part) path
  part_begins e h = ((stored-part (map_of part) path e).0 (subst (λ m. IsStored m e) (sym below_is) h)).0
    where
      below_is : below (map_of part) path ≡ map_of part
      below_is = fin.same_entries_map _ _ (walk-by_entries (map_of part) path
          ∙ ap (filter (λ e. is_prefix path e.0)) (entries-map_of part owned.masked owned.full) ∙ rows_begin ∙ sym (entries-map_of part owned.masked owned.full))

  module _ (vacant : IsVacant old path) (new : Tree (KeyValue K V)) (n k : ℕ) (graft : Grafts path branch n k old new) where
    -- the root's rows are the old ones with those of the trie
    rows_swapped : Swaps [] (entries_of part) (entries_of old) (entries_of new)
    rows_swapped = subst (λ come. Swaps [] come (entries_of old) (entries_of new)) branch_rows
        (run_change enc old new count nodes nibbles none_of (all_of path branch) n 0 k 0 kept graft.root)

    -- none of the old root's rows has the path in front
    none_begin : filter (λ e. is_prefix path e.0) (entries_of old) ≡ []
    none_begin =
        ap (filter (λ e. is_prefix path e.0)) (entries_of-root old kept.top) ∙ filter-map (λ (e : List ℕ × (K × V)). is_prefix path e.0) row_of (entries_at [] old)
        ∙ ap (map row_of) (entries_under-free path old (λ y w i pre. vacant y (w, i) pre))

    -- so the new root's rows with the path in front are those of the trie
    rows_chosen : filter (λ e. is_prefix path e.0) (entries_of new) ≡ entries_of part
    rows_chosen = swapped_under path [] (entries_of part) (entries_of old) (entries_of new) rows_swapped refl rows_begin none_begin

    -- the new map without what is below the path is the old one, and what is below it is the trie's map
    rest_is : without_below (map_of new) path ≡ map_of old
    rest_is =
        sym (from_sorted-run_cut path (entries_of part) (entries_of new) (entries_of old) (entries_rise new graft.root.alters.placed (graft.root.below kept.full))
        (record { before = rows_swapped.before; after = rows_swapped.after; was = rows_swapped.is; is = rows_swapped.was }) rows_chosen)

    walk_is : walk (map_of new) path ≡ entries_of part
    walk_is =
        walk-by_entries (map_of new) path
        ∙ ap (filter (λ e. is_prefix path e.0)) (entries-map_of new graft.root.alters.placed (graft.root.below kept.full))
        ∙ rows_chosen

    -- the new map is the old one with all pairs of the trie
    pub pairs_appended : map_of new ≡ with_pairs enc (map_of old) (pairs_below (map_of part) [])
    pairs_appended =
        let same = entries-map_of part owned.masked owned.full in
        let rows = walk_is ∙ sym same ∙ ap fin.entries (sym (below-nil (map_of part))) in
        sym (put_rows-walk path (map_of new)) ∙ (λ i. put_rows (rest_is i) (rows i))
        ∙ put_rows-pairs enc (map_of old) (map_of part) [] (subst (AllKeyed enc) (sym same) owned.keyed)

    -- no list was in both
    pub lists_apart : (e : List ℕ) → IsStored (map_of old) e → IsStored (map_of part) e → ⊥
    lists_apart e here there = (stored_without path (map_of new) e (subst (λ m. IsStored m e) (sym rest_is) here)).1 (part_begins e there)

    -- the new map is keyed where both were
    pub grafted_keyed : (is : K → Type 0) → IsKeyed enc is (map_of old) → IsKeyed enc is (map_of part) → IsKeyed enc is (map_of new)
    grafted_keyed is here there =
        let come : below (map_of new) path ≡ map_of part = fin.same_entries_map _ _ (walk_is ∙ sym (entries-map_of part owned.masked owned.full)) in
        keyed_joined enc is (map_of new) path (subst (IsKeyed enc is) (sym come) there) (subst (IsKeyed enc is) (sym rest_is) here)

    -- the new root is kept, with the counts that add up
    pub grafted_kept : (count' nodes' nibbles' : ℕ) → count' ≡ count + pairs → nodes' ≡ nodes + n → nibbles' ≡ nibbles + k → IsKept enc new count' nodes' nibbles'
    grafted_kept count' nodes' nibbles' counted noded nibbled =
        let a = ap length branch_rows in let b = owned.counted in
        run_kept enc old new count nodes nibbles none_of (all_of path branch) n 0 k 0 kept graft.root count'
        (subst (AllKeyed enc) (sym branch_rows) owned.keyed) (omega (arith, a, b, counted)) nodes' nibbles' (omega (arith, noded)) (omega (arith, nibbled))

  -- the counts that a trie keeps once the other is grafted, whose longest common list has `top` nibbles
  pub grafted_counts : (grafted : Grafted) (rest new : Tree (KeyValue K V)) (top : ℕ) → GraftRootOutcome (Ok grafted) [] part rest old new → top ≡ length path → count + pairs < 2 ^ 64
      → (top ≤ nibbled) × IsKept enc new (count + pairs) (nodes + (held - 2 + grafted.nodes)) (nibbles + (nibbled - top + grafted.nibbles))
      × (nodes + (held - 2 + grafted.nodes) < 2 ^ 128) × (nibbles + (nibbled - top + grafted.nibbles) < 2 ^ 128)
  grafted_counts grafted rest new top s is room =
      let a = only_nodes part one in let b = owned.noded in
      let c = only_nibbles part owned.top one in let d = owned.nibbled in
      let under : top ≤ nibbled = omega (arith, c, d, is) in
      let now = grafted_kept s.0 new _ _ s.1 (count + pairs) (nodes + (held - 2 + grafted.nodes)) (nibbles + (nibbled - top + grafted.nibbles)) refl (omega (arith, a, b)) (omega (arith, c, d, is, under)) in
      let few = nodes_fit enc new _ _ _ now in
      (under, now, omega (arith, few, room), nibbles_within enc new _ _ _ now room)

-- what is returned and done behind the root's fragment, which is empty, is so from the empty list on
pub grafted_from_root : {K V : Type 0} (root : TrieNode K V) (part rest new : Tree (KeyValue K V)) (r : Result Grafted Ungraftable) → (tree_of root).fragment ≡ []
    → GraftRootOutcome r (fragment_of root) part rest (tree_of root) new → GraftRootOutcome r [] part rest (tree_of root) new
grafted_from_root root part rest new r top s = subst (λ p. GraftRootOutcome r p part rest (tree_of root) new) (sym (fragment-tree_of root) ∙ top) s
