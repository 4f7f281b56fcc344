-- A kept root as plain data: its entries, nodes and nibbles, and the map that it stands for.
use Rattle.std.proofs.Common.{◌≡◌, ℕ, suc, ◌*◌, ◌≤◌, max, inl, inr, List, [], ◌∷◌, ◌++◌, map, length, Option, Some, None, IsSome, option_map, refl, ap, sym, append_assoc, subst, ◌∙◌, arith, nat_cmp}
use Rattle.std.proofs.lemmas.List.{map-append, length-append}
use Rattle.std.proofs.lemmas.List.Elements.{filter_map-append}
use Rattle.std.proofs.lemmas.List.Sums.{sum_by-append, sum_by-cons}
use Rattle.std.specs.Cmp.Lexicographic.{slice_cmp}
use Rattle.std.specs.FinMap as fin
use Rattle.nibble_map.specs.Canonical.{IsCanonical}
use Rattle.masked_tree.specs.Tree.{Tree, Children, none, more, plain, IsPlaced, IsTreePlaced, IsFullBelow, entries_in, entries_at, nodes_in, nibbles_in}
use Rattle.nibble_map.specs.Lists.{IsRising, Counts}
use Rattle.nibble_map.specs.Maps.{IsPoint, IsSomePrefix}
use Rattle.nibble_map.specs.Stored.{stored}
use Rattle.nibble_map.specs.Swaps.{entry}
use Rattle.nibble_map.specs.Trees as trees
use Rattle.nibble_map.specs.Trees.{AreMany, IsFull, IsShaped, first, nodes_below}
use Rattle.nibble_map.proofs.TreeLemmas.OneTree.{canonical_of_entries, node_count, nibble_count, few_nodes}
use Rattle.nibble_map.proofs.ListLemmas.Sorted.{sorted_of_rising}
use Rattle.nibble_map.proofs.ListLemmas.Unique.{tree_entries_rise}
use Rattle.radix_nodes.specs.declared.trie_node.KeyValue.{KeyValue}
use Rattle.radix_nodes.specs.Pairs.{pair_of}
use Rattle.radix_trie.specs.Roots.{shown_children, shown, entries_of, map_of, AllKeyed, IsRoot, IsKept}

module _ {K V : Type 0} where
  -- an entry with its pair read as a key and a value
  abbrev pub row_of : List ℕ × KeyValue K V → List ℕ × (K × V)
  row_of e = (e.0, pair_of e.1)

  -- where there is a kept pair, one is shown
  some_shown : (o : Option (KeyValue K V)) → IsSome o → IsSome (option_map pair_of o)
  some_shown None h = h
  some_shown (Some x) h = h

  -- children that are two or more as kept are so as shown
  many_shown : (k : Children (KeyValue K V)) → AreMany (plain k) → AreMany (shown_children k)
  many_shown none h = h
  many_shown (more f o m children none) h = h
  many_shown (more f o m children (more g p n ls others)) h = h

  -- placed and full is shaped
  pub placed_full_is_shaped : (low : ℕ) (k : Children (KeyValue K V)) → IsPlaced low k → IsFull (plain k) → IsShaped low (shown_children k)
  placed_full_is_shaped low none h f = tt
  placed_full_is_shaped low (more f o m children others) h g = (
    h.0,
    h.1,
    elim g.0 [ inl s ↦ inl (some_shown o s) | inr a ↦ inr (many_shown children a) ],
    placed_full_is_shaped 0 children h.3 g.1,
    placed_full_is_shaped (suc (first f)) others h.4 g.2,
  )

  -- the rows of an entry at p, or of none, are the entry of the pair shown
  pub row_of-entry : (p : List ℕ) (o : Option (KeyValue K V)) → map row_of (entry p o) ≡ entry p (option_map pair_of o)
  row_of-entry p None = refl
  row_of-entry p (Some x) = refl

  -- the first node's own pair comes first, and then those of the other nodes
  entry_first : (q : List ℕ) (f : List ℕ) (o : Option (K × V)) (ns : List (trees.Node (K × V)))
      → trees.entries (record { path = q; fragment = f; pair = o } ∷ ns) ≡ entry q o ++ trees.entries ns
  entry_first q f None ns = refl
  entry_first q f (Some x) ns = refl

  -- the entries of the shown children are the rows of the kept ones
  entries_below : (q : List ℕ) (k : Children (KeyValue K V)) → trees.entries (nodes_below q (shown_children k)) ≡ map row_of (entries_in q k)
  entries_below q none = refl
  entries_below q (more f o m children others) =
      entry_first (q ++ f) f (option_map pair_of o) (nodes_below (q ++ f) (shown_children children) ++ nodes_below q (shown_children others))
      ∙ ap (λ es. entry (q ++ f) (option_map pair_of o) ++ es)
      (filter_map-append _ (nodes_below (q ++ f) (shown_children children)) (nodes_below q (shown_children others))
      ∙ (λ i. entries_below (q ++ f) children i ++ entries_below q others i)
      ∙ sym (map-append row_of (entries_in (q ++ f) children) (entries_in q others)))
      ∙ ap (λ es. es ++ map row_of (entries_in (q ++ f) children ++ entries_in q others)) (sym (row_of-entry (q ++ f) o))
      ∙ sym (map-append row_of (entry (q ++ f) o) (entries_in (q ++ f) children ++ entries_in q others))
      ∙ ap (map row_of) (sym (append_assoc (entry (q ++ f) o) (entries_in (q ++ f) children) (entries_in q others)))

  -- the pairs of a root, each at its path, are the rows of its entries
  pub entries_of-root : (t : Tree (KeyValue K V)) → t.fragment ≡ [] → entries_of t ≡ map row_of (entries_at [] t)
  entries_of-root t e =
      entry_first [] [] (option_map pair_of t.pair) (nodes_below [] (shown_children t.children))
      ∙ (let own = sym (row_of-entry [] t.pair) in λ i. own i ++ entries_below [] t.children i)
      ∙ sym (map-append row_of (entry [] t.pair) (entries_in [] t.children))
      ∙ ap (λ f. map row_of (entry f t.pair ++ entries_in f t.children)) (sym e)

  -- in a placed and full tree the lists of the entries rise
  pub entries_rise : (t : Tree (KeyValue K V)) → IsTreePlaced t → IsFullBelow t → IsRising (stored (entries_of t))
  entries_rise t h f = tree_entries_rise (shown t) (placed_full_is_shaped 0 t.children h.1 f)

  -- a placed and full tree is the canonical tree of its own map
  shown_is_canonical : (t : Tree (KeyValue K V)) → IsTreePlaced t → IsFullBelow t → IsCanonical (shown t) (map_of t)
  shown_is_canonical t h f = canonical_of_entries (shown t) (placed_full_is_shaped 0 t.children h.1 f)

  -- the map of a placed and full tree has the tree's pairs, each at its path
  pub entries-map_of : (t : Tree (KeyValue K V)) → IsTreePlaced t → IsFullBelow t → fin.entries (map_of t) ≡ entries_of t
  entries-map_of t h f = fin.entries-from_sorted (slice_cmp nat_cmp) (entries_of t) (sorted_of_rising (entries_of t) (entries_rise t h f))

  -- as many nodes are shown below q as there are kept ones
  nodes_length : (q : List ℕ) (k : Children (KeyValue K V)) → length (nodes_below q (shown_children k)) ≡ nodes_in k
  nodes_length q none = refl
  nodes_length q (more f o m children others) =
      let a = length-append (nodes_below (q ++ f) (shown_children children)) (nodes_below q (shown_children others)) in
      let b = nodes_length (q ++ f) children in let c = nodes_length q others in omega (arith, a, b, c)

  -- the nodes shown below q have as many nibbles in their fragments as the kept ones
  nibbles_sum : (q : List ℕ) (k : Children (KeyValue K V)) → trees.fragment_nibbles (nodes_below q (shown_children k)) ≡ nibbles_in k
  nibbles_sum q none = refl
  nibbles_sum q (more f o m children others) =
      let below = nodes_below (q ++ f) (shown_children children) ++ nodes_below q (shown_children others) in
      let own = sum_by-cons (λ (n : trees.Node (K × V)). length n.fragment) (record { path = q ++ f; fragment = f; pair = option_map pair_of o }) below in
      let a = sum_by-append (λ (n : trees.Node (K × V)). length n.fragment) (nodes_below (q ++ f) (shown_children children)) (nodes_below q (shown_children others)) in
      let b = nibbles_sum (q ++ f) children in let c = nibbles_sum q others in omega (arith, own, a, b, c)

  -- as shown, a tree has one node more than there are below its root
  pub length-nodes_shown : (t : Tree (KeyValue K V)) → length (trees.nodes (shown t)) ≡ suc (nodes_in t.children)
  length-nodes_shown t = ap suc (nodes_length [] t.children)

  -- as shown, a tree has the nibbles of the fragments below its root
  pub nibbles_in-shown : (t : Tree (KeyValue K V)) → trees.fragment_nibbles (trees.nodes (shown t)) ≡ nibbles_in t.children
  nibbles_in-shown t = nibbles_sum [] t.children

  -- a trie's counts are those of the map
  module _ (enc : K → List ℕ) (t : Tree (KeyValue K V)) (count nodes nibbles : ℕ) (kept : IsKept enc t count nodes nibbles) where
    -- a kept root is the canonical tree of its map
    kept_canonical : IsCanonical (shown t) (map_of t)
    kept_canonical = shown_is_canonical t kept.masked kept.full

    -- the map of a kept root has as many pairs as are counted
    pub len-map_of_kept : fin.len (map_of t) ≡ count
    len-map_of_kept = fin.len-entries (map_of t) ∙ ap length (entries-map_of t kept.masked kept.full) ∙ kept.counted

    -- the map of a kept root has as many points as nodes are counted
    pub kept_points : Counts (IsPoint (map_of t)) nodes
    kept_points = subst (Counts (IsPoint (map_of t))) (length-nodes_shown t ∙ kept.noded) (node_count (shown t) (map_of t) kept_canonical)

    -- a kept root has at most two nodes a pair, or one
    pub kept_nodes_are_few : nodes ≤ max 1 (2 * fin.len (map_of t))
    kept_nodes_are_few = subst (λ n. n ≤ max 1 (2 * fin.len (map_of t))) (length-nodes_shown t ∙ kept.noded) (few_nodes (shown t) (map_of t) kept_canonical)

    -- the map's lists have as many non-empty prefixes as nibbles of fragments are counted
    pub kept_some_prefixes : Counts (IsSomePrefix (map_of t)) nibbles
    kept_some_prefixes = subst (Counts (IsSomePrefix (map_of t))) (nibbles_in-shown t ∙ kept.nibbled) (nibble_count (shown t) (map_of t) kept_canonical)

    -- a tree with what every trie keeps is the root of its map
    pub kept_root : IsRoot enc (map_of t) t
    kept_root = record {
      top = kept.top;
      masked = kept.masked;
      keyed = subst (AllKeyed enc) (sym (entries-map_of t kept.masked kept.full)) kept.keyed;
      canonical = kept_canonical;
    }
