-- What stands at and below a path, by the node that is nearest to it.
use Rattle.std.proofs.Common.{◌≡◌, ◌≢◌, ◌⊎◌, inl, inr, ◌↔◌, Bool, true, false, ℕ, zero, suc, ◌≤◌, ◌<◌, ◌^◌, List, [], ◌∷◌, ◌++◌, map, filter, drop, length, take, Option, Some, None, option_map, refl, ap, sym, subst, ◌∙◌, append_assoc, append-nil, arith, Bor, eqb-true, eq-eqb}
use Rattle.std.proofs.lemmas.List.{length-append, length-map, length-drop, take-append-drop, take_at}
use Rattle.std.proofs.lemmas.Cmp.{nat_list_cmp_total}
use Rattle.std.proofs.Math.Seq.{drop-length}
use Rattle.std.specs.FinMap as fin
use Rattle.std.specs.Prelude.{MatchOption, MatchBool, IsTrue, vec_len, nat_eq}
use Rattle.masked_tree.specs.Agreement.{Agrees}
use Rattle.nibble_map.specs.Answers.{IsShortest}
use Rattle.masked_tree.specs.Tree.{Tree, Children, none, more, IsPlaced, IsTreePlaced, IsFullBelow, entries_at}
use Rattle.masked_tree.specs.Paths.{IsChildAt, IsNodeAt, IsPath}
use Rattle.nibble_map.specs.Lists.{IsPrefix, IsStrictPrefix, is_prefix}
use Rattle.nibble_map.specs.MapQueries.{IsLeaf}
use Rattle.nibble_map.specs.Maps.{NibbleMap, PairMap, below, without_below, walk}
use Rattle.masked_tree.proofs.PathLemmas.Agreement.{append_drop-whole_fragment, agrees_not_prefix}
use Rattle.nibble_map.proofs.MapLemmas.Below.{get-below}
use Rattle.nibble_map.proofs.MapLemmas.Edits.{walk-by_entries}
use Rattle.nibble_map.proofs.MapLemmas.Without.{below-without_below}
use Rattle.nibble_map.proofs.ListLemmas.Cut.{empty_of_length}
use Rattle.nibble_map.proofs.ListLemmas.Parted.{prefix_itself, prefix_length}
use Rattle.nibble_map.proofs.ListLemmas.Sorted.{tied_lists_equal}
use Rattle.radix_nodes.specs.declared.trie_node.KeyValue.{KeyValue}
use Rattle.radix_nodes.specs.declared.trie_node.TrieNode.{TrieNode, out-TrieNode}
use Rattle.radix_nodes.specs.Nodes.{IsNearest, tree_of, fragment_of}
use Rattle.radix_nodes.proofs.NodeLemmas.Nodes.{fragment-tree_of, children-tree_of}
use Rattle.masked_tree.specs.Sizes.{levels}
use Rattle.radix_nodes.specs.Pairs.{pair_of}
use Rattle.radix_trie.specs.Loci.{IsNodeOf, IsLocus}
use Rattle.radix_trie.specs.Roots.{IsRoot}
use Rattle.radix_trie.specs.Views.{pairs_below}
use Rattle.radix_nodes.specs.Pairs.{pairs_in}
use Rattle.radix_trie.proofs.ChangeLemmas.Changes.{append-root_fragment}
use Rattle.radix_trie.proofs.RootLemmas.Held.{pair_of-node, get-no_node}
use Rattle.radix_trie.proofs.PathLemmas.Parts.{true_or_false, node_ends, node_full, node_placed, le-cases}
use Rattle.radix_trie.proofs.RootLemmas.Paths.{point_node}
use Rattle.radix_trie.proofs.RootLemmas.Roots.{root_is_full_below}
use Rattle.radix_trie.proofs.WalkLemmas.Rows.{levels-some}
use Rattle.radix_nodes.proofs.EditLemmas.Removal.{children-no_boxes}
use Rattle.radix_trie.proofs.PathLemmas.NodesBelow.{pairs_in-node, walk-no_path, path_below_no_leaf, childless_is_leaf, child_no_leaf}

-- false isn't true
pub false_is_not_true : false ≡ true → ⊥
false_is_not_true e = cc e

-- a filter leaves no more items
pub length-filter_le : {A : Type 0} (test : A → Bool) (xs : List A) → length (filter test xs) ≤ length xs
length-filter_le test [] = omega arith
length-filter_le test (x ∷ xs) = elim (true_or_false (test x)) [ inl e ↦ rw e (omega (arith, length-filter_le test xs)) | inr e ↦ rw e (omega (arith, length-filter_le test xs)) ]

-- with as many items dropped as it has, a list is empty
all_dropped : (xs : List ℕ) (n : ℕ) → n ≡ length xs → drop n xs ≡ []
all_dropped xs n e = ap (λ k. drop k xs) e ∙ drop-length xs

-- a list of a length above 0 has a first item
headed_by : (xs : List ℕ) → 0 < length xs → (a : ℕ) × (rest : List ℕ) × (xs ≡ a ∷ rest)
headed_by [] lt = absurd (omega arith)
headed_by (a ∷ xs) lt = (a, xs, refl)

-- a number that is at most another and isn't it is less
below_it : (a b : ℕ) → a ≤ b → (a ≡ b → ⊥) → a < b
below_it zero zero le part = absurd (part refl)
below_it zero (suc b) le part = omega arith
below_it (suc a) zero le part = absurd (omega arith)
below_it (suc a) (suc b) le part = let lt = below_it a b (omega arith) (λ e. part (ap suc e)) in omega (arith, lt)

-- all of a map is below the empty list
pub below-nil : {P : Type 0} (m : NibbleMap P) → below m [] ≡ m
below-nil m = fin.same_map nat_list_cmp_total tied_lists_equal (below m []) m (λ e. get-below m [] e tt)

-- nothing of a map is left without all below the empty list
pub without_below-nil : {P : Type 0} (m : NibbleMap P) → without_below m [] ≡ fin.empty
without_below-nil m = sym (below-nil (without_below m [])) ∙ below-without_below [] m

-- where nothing is stored at or below a path there are no pairs
pub no_pairs_below : {K V : Type 0} (m : PairMap K V) (p : List ℕ) → fin.len (below m p) ≡ 0 → pairs_below m p ≡ []
no_pairs_below m p unstored = empty_of_length (pairs_below m p) (omega (arith, length-map (walk m p) (λ e. e.1), fin.len-entries (below m p), unstored))

-- of what was found for a path
module _ {K V : Type 0} (enc : K → List ℕ) (m : PairMap K V) (p : List ℕ) (found : Option (Bor (TrieNode K V) × ℕ)) (locus : IsLocus enc m p found) where
  -- the tree in which it was found
  abbrev tree : Tree (KeyValue K V)
  tree = locus.0

  -- the path of the found node, of whose fragment n nibbles are within p
  abbrev ends : TrieNode K V → ℕ → List ℕ
  ends node n = p ++ drop n (tree_of node).fragment

  -- where nothing was found for p, no path has the prefix p
  pub no_path_found : found ≡ None → (q : List ℕ) → IsPath tree q → IsPrefix p q → ⊥
  no_path_found e = subst (λ f. MatchOption f ((q : List ℕ) → IsPath tree q → IsPrefix p q → ⊥) (λ r. IsNearest tree (tree_of r.0.now) p r.1)) e locus.2

  module _ (r : Bor (TrieNode K V)) (n : ℕ) (is : found ≡ Some (r, n)) where
    -- the found node is the one with the shortest path that p begins
    pub nearest_found : IsNearest tree (tree_of r.now) p n
    nearest_found = subst (λ f. MatchOption f ((q : List ℕ) → IsPath tree q → IsPrefix p q → ⊥) (λ r. IsNearest tree (tree_of r.0.now) p r.1)) is locus.2

    -- p ends with the first n nibbles of the found node's fragment
    pub path_ends : (q : List ℕ) × (p ≡ q ++ take n (fragment_of r.now))
    path_ends =
        let f = (tree_of r.now).fragment in
        let end = node_ends tree (ends r.now n) (tree_of r.now) nearest_found.node in
        let front = end.0 ++ take n f in
        let same : front ++ drop n f ≡ p ++ drop n f = append_assoc end.0 (take n f) (drop n f) ∙ ap (λ z. end.0 ++ z) (take-append-drop n f) ∙ sym end.1 in
        let long : length front ≡ length p = omega (arith, ap length same, length-append front (drop n f), length-append p (drop n f)) in (
          end.0,
          sym (take_at p (drop n f) (length p) refl) ∙ ap (take (length p)) (sym same) ∙ take_at front (drop n f) (length p) long ∙ ap (λ g. end.0 ++ take n g) (fragment-tree_of r.now),
        )

    -- where p ends with the found node's fragment, the node stands at p
    pub node_found_here : n ≡ length (fragment_of r.now) → IsNodeAt tree p (tree_of r.now)
    node_found_here whole =
        let end = all_dropped (tree_of r.now).fragment n (whole ∙ ap length (sym (fragment-tree_of r.now))) in
        subst (λ y. IsNodeAt tree y (tree_of r.now)) (ap (λ f. p ++ f) end ∙ append-nil p) nearest_found.node

    -- where p ends inside the found node's fragment, the node's path is strictly below p
    pub node_found_past : n < length (fragment_of r.now) → IsStrictPrefix p (ends r.now n)
    node_found_past lt =
        let f = (tree_of r.now).fragment in
        let h = headed_by (drop n f) (let d = length-drop n f in let e = ap length (fragment-tree_of r.now) in omega (arith, d, e)) in
        (h.0, h.1, ap (λ y. p ++ y) h.2)

    -- where p doesn't end with the found node's fragment, it ends inside it
    pub whole_or_inside : (n ≡ length (fragment_of r.now) → ⊥) → n < length (fragment_of r.now)
    whole_or_inside part = let e = ap length (fragment-tree_of r.now) in below_it n (length (fragment_of r.now)) (omega (arith, nearest_found.within, e)) part

    -- where p ends with the found node's fragment, the node's pair is what the map has at p
    pub pair_of-found_here : n ≡ length (fragment_of r.now) → option_map pair_of (tree_of r.now).pair ≡ fin.get m p
    pair_of-found_here whole = pair_of-node enc m tree locus.1 p (tree_of r.now) (node_found_here whole)

    -- where p ends inside the found node's fragment, the map has no pair at p
    pub get-found_inside : n < length (fragment_of r.now) → fin.get m p ≡ None
    get-found_inside lt = get-no_node enc m tree locus.1 p (λ w i.
        let s = node_found_past lt in
        let most = nearest_found.shortest.shortest p (w, i) (prefix_itself p) in
        let e = ap length s.2 ∙ length-append p (s.0 ∷ s.1) in omega (arith, most, e))

    -- the found node's pairs are the map's at and below p
    pub pairs_in-found : pairs_in (tree_of r.now) ≡ pairs_below m p
    pairs_in-found = pairs_in-node enc m tree locus.1 p (ends r.now n) (tree_of r.now) nearest_found.node nearest_found.shortest

    -- the found node has as many entries as the map has pairs at and below p
    pub length-found_entries : length (entries_at [] (tree_of r.now)) ≡ fin.len (below m p)
    length-found_entries =
        sym (length-map (entries_at [] (tree_of r.now)) _) ∙ ap length pairs_in-found ∙ length-map (walk m p) (λ e. e.1) ∙ sym (fin.len-entries (below m p))

    -- where the map has fewer than 2 ^ 64 pairs, so has the found node
    pub found_is_small : fin.len m < 2 ^ 64 → length (entries_at [] (tree_of r.now)) < 2 ^ 64
    found_is_small small =
        let some = ap length (walk-by_entries m p) in
        let few = length-filter_le (λ e. is_prefix p e.0) (fin.entries m) in
        omega (arith, small, length-found_entries, fin.len-entries (below m p), some, few, fin.len-entries m)

    -- where p ends inside the found node's fragment, p is no leaf
    pub inside_no_leaf : n < length (fragment_of r.now) → IsLeaf m p → ⊥
    inside_no_leaf lt = path_below_no_leaf enc m tree locus.1 p (ends r.now n) (tree_of r.now) nearest_found.node (node_found_past lt)

    -- where p ends with the found node's fragment and the node has no children, p is a leaf
    leaf_here : n ≡ length (fragment_of r.now) → (tree_of r.now).children ≡ none → IsLeaf m p
    leaf_here whole = childless_is_leaf enc m tree locus.1 p (tree_of r.now) (node_found_here whole)

    -- the children of the found node are at their places
    pub found_placed : IsTreePlaced (tree_of r.now)
    found_placed = node_placed tree (ends r.now n) (tree_of r.now) locus.1.masked nearest_found.node

    -- each node below the found one has a pair or two children
    pub found_full : IsFullBelow (tree_of r.now)
    found_full = node_full tree (ends r.now n) (tree_of r.now) (root_is_full_below enc m tree locus.1) nearest_found.node

    -- where p ends with the found node's fragment and a node stands below, p is no leaf
    pub child_found_no_leaf : n ≡ length (fragment_of r.now) → (x : List ℕ) (w : Tree (KeyValue K V)) → x ≢ [] → IsChildAt (tree_of r.now).children x w → IsLeaf m p → ⊥
    child_found_no_leaf whole = child_no_leaf enc m tree locus.1 p (tree_of r.now) (node_found_here whole)

  -- where nothing was found for p, the map has no pair at p
  pub get-nothing_found : found ≡ None → fin.get m p ≡ None
  get-nothing_found e = get-no_node enc m tree locus.1 p (λ w i. no_path_found e p (w, i) (prefix_itself p))

  -- where nothing was found for p, the map has no pairs at or below p
  pub nothing_found-pairs : found ≡ None → [] ≡ pairs_below m p
  nothing_found-pairs e = sym (ap (map (λ e. e.1)) (walk-no_path enc m tree locus.1 p (no_path_found e)))

  -- where nothing was found for p, the map's part below p is of length 0
  pub nothing_found-len : found ≡ None → 0 ≡ fin.len (below m p)
  nothing_found-len e = sym (fin.len-entries (below m p) ∙ ap length (walk-no_path enc m tree locus.1 p (no_path_found e)))

  -- where nothing was found for p, p is a leaf
  pub nothing_found_leaf : found ≡ None → IsLeaf m p
  nothing_found_leaf e d stored s = no_path_found e d (point_node enc m tree locus.1 d (inr (inl stored))) (s.0 ∷ s.1, s.2)

module _ {K V : Type 0} (enc : K → List ℕ) (m : PairMap K V) where
  -- what a search from the root finds for p is the place of p in the map's tree
  pub found_place : (root : TrieNode K V) (p : List ℕ) (found : Option (Bor (TrieNode K V) × ℕ)) → IsRoot enc m (tree_of root)
      → MatchOption found ((q : List ℕ) → IsPath (tree_of root) q → IsPrefix (fragment_of root ++ drop 0 p) q → ⊥) (λ r. IsNearest (tree_of root) (tree_of r.0.now) (fragment_of root ++ drop 0 p) r.1)
      → IsLocus enc m p found
  found_place root p found is near =
      (tree_of root, is, subst (λ y. MatchOption found ((q : List ℕ) → IsPath (tree_of root) q → IsPrefix y q → ⊥) (λ r. IsNearest (tree_of root) (tree_of r.0.now) y r.1)) (append-root_fragment root p p is.top refl) near)

  -- the map's node at p, with its whole fragment within p, is the place of p
  pub point_place : (p : List ℕ) (r : Bor (TrieNode K V)) (n : ℕ) → IsNodeOf enc m p (tree_of r.now) → n ≡ length (fragment_of r.now) → IsLocus enc m p (Some (r, n))
  point_place p r n at whole =
      let f = (tree_of r.now).fragment in
      let all = whole ∙ ap length (sym (fragment-tree_of r.now)) in
      let tied_lists_equal : p ≡ p ++ drop n f = sym (ap (λ y. p ++ y) (all_dropped f n all) ∙ append-nil p) in
      let s : IsShortest (IsPath at.0) p p = record { member = (tree_of r.now, at.2); below = prefix_itself p; shortest = λ q _ i. prefix_length p q i } in (
        at.0,
        at.1,
        record {
          within = omega (arith, all);
          node = subst (λ y. IsNodeAt at.0 y (tree_of r.now)) tied_lists_equal at.2;
          shortest = subst (IsShortest (IsPath at.0) p) tied_lists_equal s;
        },
      )

module _ {K V : Type 0} where
  -- children with a level have a node below at a path that isn't empty
  pub first_child : (low : ℕ) (k : Children (KeyValue K V)) → IsPlaced low k → 0 < levels k → (x : List ℕ) × (w : Tree (KeyValue K V)) × (x ≢ []) × IsChildAt k x w
  first_child low none h lt = absurd (omega arith)
  first_child low (more f o m children others) h lt = (f, record { fragment = f; pair = o; mask = m; children = children }, h.0, inl (refl, refl))

  -- a node with a child leads to a path below
  some_child_below : (n : TrieNode K V) → IsTreePlaced (tree_of n) → 0 < length (out-TrieNode K V n).children.items
      → (x : List ℕ) × (w : Tree (KeyValue K V)) × (x ≢ []) × IsChildAt (tree_of n).children x w
  some_child_below n h lt =
      let tall = levels-some (out-TrieNode K V n).children.items lt in
      let e = ap levels (children-tree_of n) in
      first_child 0 (tree_of n).children h.1 (omega (arith, tall, e))

-- where a node stands at the path, a leaf is a node without children
module _ {K V : Type 0} (enc : K → List ℕ) (m : PairMap K V) (p : List ℕ) (found : Option (Bor (TrieNode K V) × ℕ)) (locus : IsLocus enc m p found)
    (r : Bor (TrieNode K V)) (n : ℕ) (is : found ≡ Some (r, n)) (whole : n ≡ length (fragment_of r.now)) where
  -- where p ends with the found node's fragment, p is a leaf exactly if the node has no children
  pub leaf_tells : (b : Bool) → MatchBool b (vec_len (out-TrieNode K V r.now).children ≡ 0) (0 < vec_len (out-TrieNode K V r.now).children) → IsTrue b ↔ IsLeaf m p
  leaf_tells true e = (λ _. leaf_here enc m p found locus r n is whole (children-no_boxes r.now (let ok = (out-TrieNode K V r.now).children.ok.0 in omega (arith, e, ok))), λ _. refl)
  leaf_tells false e =
      let ok = (out-TrieNode K V r.now).children.ok.0 in
      let k = some_child_below r.now (found_placed enc m p found locus r n is) (omega (arith, e, ok)) in
      (λ t. absurd (false_is_not_true t), λ leaf. absurd (child_found_no_leaf enc m p found locus r n is whole k.0 k.1 k.2 k.3 leaf))

-- a path begins a list where they agree in all of the path
pub begins_tells : (p e : List ℕ) (tied_lists_equal compared count : ℕ) → count ≡ length p → Agrees p e tied_lists_equal compared → IsTrue (nat_eq tied_lists_equal count) ↔ IsPrefix p e
begins_tells p e tied_lists_equal compared count is agree =
    (λ t. (drop tied_lists_equal e, sym (append_drop-whole_fragment p e tied_lists_equal compared agree (eqb-true tied_lists_equal count t ∙ is))), λ i. eq-eqb tied_lists_equal count (all i (le-cases tied_lists_equal (length p) agree.within) ∙ sym is))
  where
    all : IsPrefix p e → (tied_lists_equal ≡ length p) ⊎ (tied_lists_equal < length p) → tied_lists_equal ≡ length p
    all i (inl d) = d
    all i (inr lt) = absurd (agrees_not_prefix p e tied_lists_equal compared agree lt i)
