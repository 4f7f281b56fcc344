-- A map has one canonical tree.
use Rattle.std.proofs.Common.{◌≡◌, ℕ, ◌≤◌, ◌*◌, ◌↔◌, List, [], ◌∷◌, filter, length, max, Option, Some, None, option_map, refl, sym, ap, subst, ◌∙◌, inl, nat_cmp}
use Rattle.std.specs.List.{cons_option}
use Rattle.std.specs.Cmp.Lexicographic.{slice_cmp}
use Rattle.std.specs.FinMap as map
use Rattle.std.proofs.lemmas.Cmp.{nat_list_cmp_total}
use Rattle.std.proofs.lemmas.List.{length-map}
use Rattle.nibble_map.specs.Answers.{IsFragment, IsLongest, IsShortest}
use Rattle.nibble_map.specs.Canonical.{IsCanonical}
use Rattle.nibble_map.specs.Lists.{Has, Each, IsBefore, is_prefix, IsRising, Lists, Counts}
use Rattle.nibble_map.specs.MapQueries as map_queries
use Rattle.nibble_map.specs.Maps.{NibbleMap, IsStored, IsPoint, IsSomePrefix}
use Rattle.nibble_map.specs.Stored as stored
use Rattle.nibble_map.specs.Stored.{IsSetAt, IsCutAt}
use Rattle.nibble_map.specs.Trees.{Forest, bare, grow, FragmentTree, Node, nodes, paths, entries, fragment_nibbles, paths_and_fragments, walked, IsShaped, IsForestPlaced, IsFull}
use Rattle.nibble_map.proofs.TreeLemmas.Canonical.{full_iff_points}
use Rattle.nibble_map.proofs.TreeLemmas.Fragments.{tree_fragments}
use Rattle.nibble_map.proofs.TreeLemmas.Full.{shaped_by_fullness}
use Rattle.nibble_map.proofs.MapLemmas.Edits.{stored_by_entries, set_is_insert, cut_is_remove}
use Rattle.nibble_map.proofs.PointLemmas.Moves.{Within, point_moves, some_prefix_moves, lists_moves, longest_moves, shortest_moves, fragment_moves, compared_moves}
use Rattle.nibble_map.proofs.PointLemmas.Visited.{prefixes_counted}
use Rattle.nibble_map.proofs.TreeLemmas.Points.{tree_points}
use Rattle.nibble_map.proofs.TreeLemmas.Same.{paths_and_fragments-same_stored}
use Rattle.nibble_map.proofs.TreeLemmas.Sizes.{nodes_bound}
use Rattle.nibble_map.proofs.ListLemmas.Sorted.{tied_lists_equal, sorted_of_rising}
use Rattle.nibble_map.proofs.TreeLemmas.Steps.{tree_inserted, tree_removed}
use Rattle.nibble_map.proofs.TreeLemmas.SomePrefixes.{tree_nibbles}
use Rattle.nibble_map.proofs.ListLemmas.Unique.{Each-has, before_not_itself, stored_path, tree_entries_rise}
use Rattle.nibble_map.proofs.MapLemmas.Values.{remove-inserted}
use Rattle.nibble_map.proofs.TreeLemmas.Walked.{tree_compared}
use Rattle.nibble_map.proofs.ListLemmas.Cut.{cons_head, cons_tail}

-- the local shape is a child's place and fullness
pub shaped_parts : {P : Type 0} (low : ℕ) (k : Forest P) → IsShaped low k → IsForestPlaced low k × IsFull k
shaped_parts low bare s = (tt, tt)
shaped_parts low (grow f o children others) s =
    let a = shaped_parts 0 children s.3 in
    let b = shaped_parts _ others s.4 in ((s.0, s.1, a.0, b.0), (s.2, a.1, b.1))

module _ {P : Type 0} (t : FragmentTree P) (m : NibbleMap P) (pairs : entries (nodes t) ≡ map.entries m) where
  -- a list that the tree's entries store is stored in the map
  map_of_tree : Within (stored.IsStored (entries (nodes t))) (IsStored m)
  map_of_tree e h = (stored_by_entries m e).0 (subst (λ es. stored.IsStored es e) pairs h)

  -- a list that the map stores is stored by the tree's entries
  tree_of_map : Within (IsStored m) (stored.IsStored (entries (nodes t)))
  tree_of_map e h = subst (λ es. stored.IsStored es e) (sym pairs) ((stored_by_entries m e).1 h)

  -- a shaped tree with the pairs of a map is canonical for it
  canonical_of_shape : IsShaped 0 t.children → IsCanonical t m
  canonical_of_shape s = record {
    placed = (shaped_parts 0 t.children s).0;
    pairs = pairs;
    exact = lists_moves _ _ (point_moves _ _ map_of_tree) (point_moves _ _ tree_of_map) (paths (nodes t)) (tree_points t s);
  }

  -- a placed tree with the pairs of a map is shaped where its paths are the map's points
  shape_of_points : IsForestPlaced 0 t.children → Lists (IsPoint m) (paths (nodes t)) → IsShaped 0 t.children
  shape_of_points s l = shaped_by_fullness 0 t.children s ((full_iff_points t s).1 (lists_moves _ _ (point_moves _ _ tree_of_map) (point_moves _ _ map_of_tree) (paths (nodes t)) l))

  -- a placed tree with the pairs of a map is full exactly where it is canonical for it
  pub full_is_canonical : IsForestPlaced 0 t.children → IsFull t.children ↔ IsCanonical t m
  full_is_canonical s = ((λ f. canonical_of_shape (shaped_by_fullness 0 t.children s f)), (λ c. (shaped_parts 0 t.children (shape_of_points s c.exact)).1))

-- a canonical tree is shaped
canonical_shaped : {P : Type 0} (t : FragmentTree P) (m : NibbleMap P) → IsCanonical t m → IsShaped 0 t.children
canonical_shaped t m c = shape_of_points t m c.pairs c.placed c.exact

-- a shaped tree is canonical for the map of its own entries
pub canonical_of_entries : {P : Type 0} (t : FragmentTree P) → IsShaped 0 t.children → IsCanonical t (map.from_sorted (entries (nodes t)))
canonical_of_entries t s = canonical_of_shape t _ (sym (map.entries-from_sorted _ _ (sorted_of_rising _ (tree_entries_rise t s)))) s

-- what a map's canonical tree tells of the map
module _ {P : Type 0} (t : FragmentTree P) (m : NibbleMap P) (c : IsCanonical t m) where
  -- a canonical tree has a node for each point of the map
  pub node_count : Counts (IsPoint m) (length (nodes t))
  node_count = record { list = paths (nodes t); lists = c.exact; length_is = length-map (nodes t) (λ n. n.path) }

  -- a canonical tree has a nibble for each non-empty prefix of a stored list
  pub nibble_count : Counts (IsSomePrefix m) (fragment_nibbles (nodes t))
  nibble_count =
      let k = tree_nibbles t (canonical_shaped t m c) in
      record { list = k.list; lists = lists_moves _ _ (some_prefix_moves _ _ (map_of_tree t m c.pairs)) (some_prefix_moves _ _ (tree_of_map t m c.pairs)) k.list k.lists; length_is = k.length_is }

  -- a canonical tree has at most twice as many nodes as the map has pairs, or one
  pub few_nodes : length (nodes t) ≤ max 1 (2 * map.len m)
  few_nodes = subst (λ n. length (nodes t) ≤ max 1 (2 * n)) (ap length c.pairs ∙ sym (map.len-entries m)) (nodes_bound t (canonical_shaped t m c))

  -- each node of a canonical tree has the fragment that the map's points give its path
  pub fragments_are : Each (λ n. map_queries.IsFragment m n.path n.fragment) (nodes t)
  fragments_are = moved (nodes t) (tree_fragments t (canonical_shaped t m c))
    where
      moved : (ns : List (Node P)) → Each (λ n. IsFragment (stored.IsStored (entries (nodes t))) n.path n.fragment) ns → Each (λ n. map_queries.IsFragment m n.path n.fragment) ns
      moved [] h = tt
      moved (n ∷ ns) h = (fragment_moves _ _ (map_of_tree t m c.pairs) (tree_of_map t m c.pairs) n.path n.fragment h.0, moved ns h.1)

  -- the longest path of a canonical tree that is a prefix of e is the raw ancestor of e
  pub nearest_above : (e p : List ℕ) → IsLongest (Has (paths (nodes t))) e p ↔ map_queries.IsRawAncestor m e p
  nearest_above e p = (longest_moves _ _ (λ x. (c.exact.exactly x).0) (λ x. (c.exact.exactly x).1) e p, longest_moves _ _ (λ x. (c.exact.exactly x).1) (λ x. (c.exact.exactly x).0) e p)

  -- the shortest path of a canonical tree that e is a prefix of is the raw descendant of e
  pub nearest_below : (e p : List ℕ) → IsShortest (Has (paths (nodes t))) e p ↔ map_queries.IsRawDescendant m e (Some p)
  nearest_below e p = (shortest_moves _ _ (λ x. (c.exact.exactly x).0) (λ x. (c.exact.exactly x).1) e p, shortest_moves _ _ (λ x. (c.exact.exactly x).1) (λ x. (c.exact.exactly x).0) e p)

  -- a search for e in a canonical tree compares as many nibbles as the map says
  pub search_count : (e : List ℕ) → map_queries.IsCompared m e (walked t.children e)
  search_count e = compared_moves _ _ (map_of_tree t m c.pairs) (tree_of_map t m c.pairs) e _ (tree_compared t (canonical_shaped t m c) e)

  -- a search for e visits as many nodes as a canonical tree has paths that are prefixes of e
  pub visit_count : (e : List ℕ) → map_queries.IsVisited m e (length (filter (λ p. is_prefix p e) (paths (nodes t))))
  visit_count e = prefixes_counted (IsPoint m) (paths (nodes t)) e c.exact

-- edits
-- from a canonical tree an insertion leads to one
pub canonical_inserted : {P : Type 0} (t : FragmentTree P) (m : NibbleMap P) → IsCanonical t m → (e : List ℕ) (v : P) → (n : FragmentTree P) × IsCanonical n (map.insert m e v)
canonical_inserted t m c e v =
    let r = tree_inserted t (canonical_shaped t m c) e v in
    let k = canonical_of_entries r.0 r.1 in
    (r.0, subst (IsCanonical r.0) (set_is_insert m (map.from_sorted (entries (nodes r.0))) e v (moved r.0 k.pairs r.2)) k)
  where
    moved : (n : FragmentTree _) → entries (nodes n) ≡ map.entries (map.from_sorted {R = slice_cmp nat_cmp} (entries (nodes n))) → IsSetAt (entries (nodes t)) e v (entries (nodes n))
        → IsSetAt (map.entries m) e v (map.entries (map.from_sorted {R = slice_cmp nat_cmp} (entries (nodes n))))
    moved n i s = subst (λ es. IsSetAt es e v (map.entries (map.from_sorted {R = slice_cmp nat_cmp} (entries (nodes n))))) c.pairs (subst (IsSetAt (entries (nodes t)) e v) i s)

-- from a canonical tree a removal leads to one
pub canonical_removed : {P : Type 0} (t : FragmentTree P) (m : NibbleMap P) → IsCanonical t m → (e : List ℕ) → (n : FragmentTree P) × IsCanonical n (map.remove m e)
canonical_removed t m c e =
    let r = tree_removed t (canonical_shaped t m c) e in
    let k = canonical_of_entries r.0 r.1 in
    (r.0, subst (IsCanonical r.0) (cut_is_remove m (map.from_sorted (entries (nodes r.0))) e (moved r.0 k.pairs r.2)) k)
  where
    moved : (n : FragmentTree _) → entries (nodes n) ≡ map.entries (map.from_sorted {R = slice_cmp nat_cmp} (entries (nodes n))) → IsCutAt (entries (nodes t)) e (entries (nodes n))
        → IsCutAt (map.entries m) e (map.entries (map.from_sorted {R = slice_cmp nat_cmp} (entries (nodes n))))
    moved n i s = subst (λ es. IsCutAt es e (map.entries (map.from_sorted {R = slice_cmp nat_cmp} (entries (nodes n))))) c.pairs (subst (IsCutAt (entries (nodes t)) e) i s)

-- the tree of entries inserted one by one
tree_of_insertions : {P : Type 0} (es : List (List ℕ × P)) → (t : FragmentTree P) × IsCanonical t (map.from_entries es)
tree_of_insertions {P} [] = (none, subst (IsCanonical none) (map.empty_of_len _ (map.len-entries _ ∙ ap length (sym k.pairs))) k)
  where
    none : FragmentTree P
    none = record { top = None; children = bare }

    k : IsCanonical none (map.from_sorted (entries (nodes none)))
    k = canonical_of_entries none tt
tree_of_insertions (e ∷ es) = let r = tree_of_insertions es in canonical_inserted r.0 (map.from_entries es) r.1 e.0 e.1

-- each map has a canonical tree
pub has_tree : {P : Type 0} (m : NibbleMap P) → (t : FragmentTree P) × IsCanonical t m
has_tree m =
    let r = tree_of_insertions (map.entries m) in
    (r.0, subst (IsCanonical r.0) (map.same_map nat_list_cmp_total tied_lists_equal _ m (λ q. map.get-from_entries nat_list_cmp_total (map.entries m) q ∙ sym (map.get-entries m q))) r.1)

-- one tree alone
-- nodes with equal paths, fragments and pairs are equal
node_same : {P : Type 0} (a b : Node P) → a.path ≡ b.path → a.fragment ≡ b.fragment → a.pair ≡ b.pair → a ≡ b
node_same a b p f o = λ i. record { path = p i; fragment = f i; pair = o i }

-- a first pair isn't among later nodes' pairs
not_later : {P : Type 0} (n : Node P) (ns : List (Node P)) (p : List ℕ) (v : P) (es : List (List ℕ × P)) → IsRising (paths (n ∷ ns)) → n.path ≡ p → entries ns ≡ (p, v) ∷ es → ⊥
not_later n ns p v es r i e =
    before_not_itself n.path (subst (IsBefore n.path) (sym i) (Each-has (IsBefore n.path) (paths ns) p r.0 (stored_path ns p (subst (λ es. Has (stored.stored es) p) (sym e) (inl refl)))))

-- nodes with rising paths are equal where paths, fragments and entries are
nodes_same : {P : Type 0} (ns ks : List (Node P)) → IsRising (paths ns) → IsRising (paths ks) → paths_and_fragments ns ≡ paths_and_fragments ks → entries ns ≡ entries ks → ns ≡ ks
nodes_same [] [] r s e f = refl
nodes_same [] (k ∷ ks) r s e f = absurd (let i : [] ≡ (k.path, k.fragment) ∷ paths_and_fragments ks = e in cc i)
nodes_same (n ∷ ns) [] r s e f = absurd (let i : (n.path, n.fragment) ∷ paths_and_fragments ns ≡ [] = e in cc i)
nodes_same {P} (n ∷ ns) (k ∷ ks) r s e f = by n.pair k.pair refl refl f (nodes_same ns ks r.1 s.1 (cons_tail e))
  where
    path : n.path ≡ k.path
    path = ap (λ (z : List ℕ × List ℕ). z.0) (cons_head e)

    fragment : n.fragment ≡ k.fragment
    fragment = ap (λ (z : List ℕ × List ℕ). z.1) (cons_head e)

    joined : n.pair ≡ k.pair → ns ≡ ks → n ∷ ns ≡ k ∷ ks
    joined o i = λ j. node_same n k path fragment o j ∷ i j

    by : (o p : Option P) → n.pair ≡ o → k.pair ≡ p →
        cons_option (option_map (λ v. (n.path, v)) o) (entries ns) ≡ cons_option (option_map (λ v. (k.path, v)) p) (entries ks) → (entries ns ≡ entries ks → ns ≡ ks) → n ∷ ns ≡ k ∷ ks
    by None None i j f rest = joined (i ∙ sym j) (rest f)
    by None (Some w) i j f rest = absurd (not_later n ns k.path w (entries ks) r path f)
    by (Some v) None i j f rest = absurd (not_later k ks n.path v (entries ns) s (sym path) (sym f))
    by (Some v) (Some w) i j f rest =
        joined (i ∙ ap (λ (z : List ℕ × P). Some z.1) (cons_head f) ∙ sym j) (rest (cons_tail f))

-- two canonical trees of one map have equal nodes
pub nodes-canonical : {P : Type 0} (t u : FragmentTree P) (m : NibbleMap P) → IsCanonical t m → IsCanonical u m → nodes t ≡ nodes u
nodes-canonical t u m c d =
    nodes_same (nodes t) (nodes u) c.exact.rising d.exact.rising (paths_and_fragments-same_stored t u (canonical_shaped t m c) (canonical_shaped u m d) (λ e. (subst (λ es. stored.IsStored es e) pairs, subst (λ es. stored.IsStored es e) (sym pairs)))) pairs
  where
    pairs : entries (nodes t) ≡ entries (nodes u)
    pairs = c.pairs ∙ sym d.pairs

-- canonical trees of maps with the same stored lists have the same paths and fragments
pub paths_and_fragments-canonical : {P Q : Type 0} (t : FragmentTree P) (m : NibbleMap P) (u : FragmentTree Q) (n : NibbleMap Q) → IsCanonical t m → IsCanonical u n →
    ((e : List ℕ) → IsStored m e ↔ IsStored n e) → paths_and_fragments (nodes t) ≡ paths_and_fragments (nodes u)
paths_and_fragments-canonical t m u n c d h = paths_and_fragments-same_stored t u (canonical_shaped t m c) (canonical_shaped u n d) (λ e. (
  (λ i. tree_of_map u n d.pairs e ((h e).0 (map_of_tree t m c.pairs e i))),
  (λ i. tree_of_map t m c.pairs e ((h e).1 (map_of_tree u n d.pairs e i))),
))

-- the canonical tree after an insertion and the removal of the same list is the one before
pub nodes-undone : {P : Type 0} (t u : FragmentTree P) (m : NibbleMap P) (e : List ℕ) (v : P) → map.get m e ≡ None → IsCanonical t m →
    IsCanonical u (map.remove (map.insert m e v) e) → nodes u ≡ nodes t
nodes-undone t u m e v none c d = nodes-canonical u t m (subst (IsCanonical u) (remove-inserted m e v none) d) c
