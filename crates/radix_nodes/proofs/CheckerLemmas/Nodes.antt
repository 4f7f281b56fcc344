-- The test of a node, and its count of pairs, by its fields and its children's.
use Rattle.std.proofs.Common.{◌≡◌, ℕ, suc, ◌+◌, ◌<◌, ◌≤◌, ◌==◌, Bool, true, false, ◌&&◌, List, [], ◌∷◌, ◌++◌, length, get_or, drop, drop-cons, add-one, is_some, Some, None, Option, refl, ap, sym, ◌∙◌, arith}
use Rattle.std.specs.Bool.{Decides}
use Rattle.std.specs.declared.boxed.Box.{Box}
use Rattle.std.specs.declared.alloc.Global.{Global}
use Rattle.std.proofs.lemmas.Bool.{lt-ltb, le-ltb}
use Rattle.std.proofs.lemmas.List.{drop_all}
use Rattle.nibble_map.specs.Trees.{first}
use Rattle.masked_tree.specs.Mask.{marked}
use Rattle.masked_tree.specs.Tree.{entries_at}
use Rattle.radix_nodes.specs.declared.trie_node.KeyValue.{KeyValue}
use Rattle.radix_nodes.specs.declared.trie_node.TrieNode.{TrieNode, out-TrieNode}
use Rattle.radix_nodes.specs.Nodes.{tree_of, children_of, fragment_of, unboxed}
use Rattle.radix_nodes.specs.Soundness.{IsSoundAt, key_test, form_test, starts, children_test, node_test, test_of, tests_of, pair_count_of, pair_count_of_all}
use Rattle.std.specs.Prelude.{vec_len}
use Rattle.masked_tree.specs.Sizes.{own_count, pair_count}
use Rattle.masked_tree.proofs.TreeLemmas.Sizes.{length-entries_at}
use Rattle.radix_nodes.proofs.CopyLemmas.Same.{and-second_false}
use Rattle.radix_nodes.proofs.EditLemmas.Insertion.{length-firsts_of_boxes}
use Rattle.radix_nodes.proofs.NodeLemmas.Sizes.{child_is_smaller}
use Rattle.radix_nodes.proofs.NodeLemmas.Nodes.{tree_of-out, pair-tree_of, children-tree_of, fragment-tree_of}
use Rattle.radix_nodes.proofs.CheckerLemmas.Trees.{node_test_decides}

-- a pair is there exactly where its box is
pub unboxed_some : {K V : Type 0} (o : Option (Box (KeyValue K V) Global)) → is_some (unboxed o) ≡ is_some o
unboxed_some None = refl
unboxed_some (Some b) = refl

module _ {K V : Type 0} where
  -- the test by a node's fields
  -- the test of a node is that of its pair's key, of its form, and of its children and mask
  pub test_out : (e : K → List ℕ) (q : List ℕ) (n : TrieNode K V) → let x = out-TrieNode K V n in
      test_of e q n ≡ ((key_test e (q ++ x.fragment) (unboxed x.pair) && form_test (q ++ x.fragment) x.fragment (unboxed x.pair) (vec_len x.children)) && tests_of e (q ++ x.fragment) 0 0 x.mask x.children.items)
  unfolding test_of tests_of
  test_out e q n =
      let x = out-TrieNode K V n in
      ap (λ t. node_test e q t) (tree_of-out n)
      ∙ ap (λ c. (key_test e (q ++ x.fragment) (unboxed x.pair) && form_test (q ++ x.fragment) x.fragment (unboxed x.pair) c) && children_test e (q ++ x.fragment) 0 0 x.mask (children_of x.children.items)) (length-firsts_of_boxes x.children.items ∙ sym x.children.ok.0)

  -- a node whose pair's key has another encoding fails its test
  pub false_by_key : (e : K → List ℕ) (q : List ℕ) (n : TrieNode K V) → key_test e (q ++ fragment_of n) (unboxed (out-TrieNode K V n).pair) ≡ false → false ≡ test_of e q n
  false_by_key e q n other = rw (test_out e q n, other) refl

  -- a node that may not be left with what it has fails its test
  pub false_by_form : (e : K → List ℕ) (q : List ℕ) (n : TrieNode K V) → let x = out-TrieNode K V n in
      key_test e (q ++ fragment_of n) (unboxed x.pair) ≡ true → form_test (q ++ fragment_of n) x.fragment (unboxed x.pair) (vec_len x.children) ≡ false → false ≡ test_of e q n
  false_by_form e q n key other = rw (test_out e q n, key, other) refl

  -- where a node's key and form pass, its test is that of its children
  pub test_by_children : (e : K → List ℕ) (q : List ℕ) (n : TrieNode K V) → let x = out-TrieNode K V n in
      key_test e (q ++ fragment_of n) (unboxed x.pair) ≡ true → form_test (q ++ fragment_of n) x.fragment (unboxed x.pair) (vec_len x.children) ≡ true
      → tests_of e (q ++ fragment_of n) 0 0 x.mask x.children.items ≡ test_of e q n
  test_by_children e q n key form = rw (test_out e q n, key, form) refl

  -- a node has as many pairs below any path
  pub pairs_at : (q : List ℕ) (n : TrieNode K V) → length (entries_at q (tree_of n)) ≡ pair_count_of n
  unfolding pair_count_of
  pairs_at q n = length-entries_at q (tree_of n) ∙ sym (length-entries_at [] (tree_of n))

  -- how many pairs a node holds: its own and its children's, by its fields
  pub pairs_out : (n : TrieNode K V) → pair_count_of n ≡ own_count (unboxed (out-TrieNode K V n).pair) + pair_count_of_all (out-TrieNode K V n).children.items
  unfolding pair_count_of pair_count_of_all
  pairs_out n = let a = length-entries_at [] (tree_of n) in let b = ap own_count (pair-tree_of n) in let c = ap pair_count (children-tree_of n) in omega (arith, a, b, c)

  -- a child holds at most as many pairs as its node
  pub child_pairs : (n : TrieNode K V) (i : ℕ) (b : Box (TrieNode K V) Global) → i < length (out-TrieNode K V n).children.items → get_or (out-TrieNode K V n).children.items i b ≡ b → pair_count_of b.value ≤ pair_count_of n
  unfolding pair_count_of
  child_pairs n i b lt at = (child_is_smaller n i b lt at).1

  -- `test_of` decides whether a node below the path q is canonical
  pub test_of_decides : (e : K → List ℕ) (q : List ℕ) (n : TrieNode K V) → Decides (test_of e q n) (IsSoundAt e q (tree_of n))
  unfolding test_of
  test_of_decides e q n = node_test_decides e q (tree_of n)

  -- the children that are left, with the next one taken off the front
  module _ (bs : List (Box (TrieNode K V) Global)) (i : ℕ) (b : Box (TrieNode K V) Global) (lt : i < length bs) (at : b ≡ get_or bs i b) where
    -- the boxes from i on are the one at i and those after it
    next : drop i bs ≡ b ∷ drop (i + 1) bs
    next = rw (add-one, drop-cons bs i b) (ap (λ x. x ∷ drop (suc i) bs) (sym at))

    -- how many pairs the children from i on hold: the one at i, and those after it
    pub next_pairs : pair_count_of_all (drop i bs) ≡ pair_count_of b.value + pair_count_of_all (drop (i + 1) bs)
    unfolding pair_count_of pair_count_of_all
    next_pairs = ap (λ l. pair_count (children_of l)) next ∙ (let c = length-entries_at [] (tree_of b.value) in omega (arith, c))

    -- the test of the children from i on: the one at i may start and passes, as do those after it
    pub next_test : (e : K → List ℕ) (p : List ℕ) (low seen mask : ℕ) → tests_of e p low seen mask (drop i bs)
        ≡ (starts low (fragment_of b.value) && (test_of e p b.value && tests_of e p (first (fragment_of b.value) + 1) (marked seen (first (fragment_of b.value))) mask (drop (i + 1) bs)))
    unfolding test_of tests_of
    next_test e p low seen mask =
        ap (λ l. children_test e p low seen mask (children_of l)) next
        ∙ ap (λ f. starts low f && (node_test e p (tree_of b.value) && children_test e p (first f + 1) (marked seen (first f)) mask (children_of (drop (i + 1) bs)))) (fragment-tree_of b.value)

  -- and none is left
  -- where no child is left, the test is whether the bits seen are the mask
  pub tests_end : (bs : List (Box (TrieNode K V) Global)) (i : ℕ) → length bs ≤ i → (e : K → List ℕ) (p : List ℕ) (low seen mask : ℕ) → tests_of e p low seen mask (drop i bs) ≡ (seen == mask)
  unfolding tests_of
  tests_end bs i l e p low seen mask = ap (λ l. children_test e p low seen mask (children_of l)) (drop_all i bs l)

  -- where no child is left, none holds a pair
  pub pairs_end : (bs : List (Box (TrieNode K V) Global)) (i : ℕ) → length bs ≤ i → pair_count_of_all (drop i bs) ≡ 0
  unfolding pair_count_of_all
  pairs_end bs i l = ap (λ l. pair_count (children_of l)) (drop_all i bs l)

  -- what the next child's own test says of the children that are left
  module _ (bs : List (Box (TrieNode K V) Global)) (i : ℕ) (b : Box (TrieNode K V) Global) (lt : i < length bs) (at : b ≡ get_or bs i b) (e : K → List ℕ) (p : List ℕ) (low seen mask : ℕ) (r : Bool)
      (are : tests_of e p low seen mask (drop i bs) ≡ r) where
    -- where the child at i may not start, the test of the children from i on fails
    pub false_by_start : starts low (fragment_of b.value) ≡ false → false ≡ r
    false_by_start s = sym (sym are ∙ next_test bs i b lt at e p low seen mask ∙ ap (λ z. z && (test_of e p b.value && tests_of e p (first (fragment_of b.value) + 1) (marked seen (first (fragment_of b.value))) mask (drop (i + 1) bs))) s)

    -- where the child at i fails its test, the test of the children from i on fails
    pub false_by_child : test_of e p b.value ≡ false → false ≡ r
    false_by_child s = sym (sym are ∙ next_test bs i b lt at e p low seen mask ∙ ap (λ z. starts low (fragment_of b.value) && (z && tests_of e p (first (fragment_of b.value) + 1) (marked seen (first (fragment_of b.value))) mask (drop (i + 1) bs))) s ∙ and-second_false (starts low (fragment_of b.value)))

    -- where the child at i may start and passes, the test is that of the children after it
    pub test_goes_on : (y : ℕ) → y ≡ first (fragment_of b.value) → starts low (fragment_of b.value) ≡ true → test_of e p b.value ≡ true → tests_of e p (y + 1) (marked seen y) mask (drop (i + 1) bs) ≡ r
    test_goes_on y ey s k =
        ap (λ n. tests_of e p (n + 1) (marked seen n) mask (drop (i + 1) bs)) ey
        ∙ sym (next_test bs i b lt at e p low seen mask ∙ ap (λ z. z && (test_of e p b.value && tests_of e p (first (fragment_of b.value) + 1) (marked seen (first (fragment_of b.value))) mask (drop (i + 1) bs))) s
        ∙ ap (λ z. z && tests_of e p (first (fragment_of b.value) + 1) (marked seen (first (fragment_of b.value))) mask (drop (i + 1) bs)) k)
        ∙ are

-- an empty fragment may not start
pub starts-empty : (low : ℕ) (f : List ℕ) → length f ≡ 0 → starts low f ≡ false
starts-empty low [] e = refl
starts-empty low (x ∷ f) e = absurd (omega (arith, e))

-- a fragment whose first nibble is below `low` may not start
pub starts-below : (low y : ℕ) (f : List ℕ) → y ≡ first f → y < low → starts low f ≡ false
starts-below low y [] e l = refl
starts-below low y (x ∷ f) e l = rw (lt-ltb x low (omega (arith, e, l))) refl

-- a fragment whose first nibble is from `low` on and below 16 may start
pub starts-in_order : (low y : ℕ) (f : List ℕ) → 0 < length f → y ≡ first f → low ≤ y → y < 16 → starts low f ≡ true
starts-in_order low y [] s e l m = absurd (omega (arith, s))
starts-in_order low y (x ∷ f) s e l m = rw (le-ltb x low (omega (arith, e, l)), lt-ltb x 16 (omega (arith, e, m))) refl
