-- The way down to a list: the pairs at and below a node whose paths are prefixes of it.
use Rattle.std.proofs.Common.{◌≡◌, ℕ, zero, suc, ◌≤◌, cond, List, [], ◌∷◌, ◌++◌, map, filter, drop, get_or, Option, Some, None, refl, ap, sym, subst, ◌∙◌, append-nil, arith, eq-eqb, Box, Global}
use Rattle.std.proofs.lemmas.Cmp.{nat_list_cmp_total}
use Rattle.std.proofs.lemmas.Simd.{map-map}
use Rattle.masked_tree.specs.Tree.{Tree, Children, none, more, IsPlaced, IsTreePlaced, IsAt, entries_in, entries_at}
use Rattle.masked_tree.specs.Paths.{IsChildAt, IsStuck}
use Rattle.masked_tree.proofs.TreeLemmas.Children.{child_begins_from, child_tree_is_placed}
use Rattle.nibble_map.specs.Lists.{IsPrefix, is_prefix}
use Rattle.nibble_map.specs.Maps.{PairMap}
use Rattle.nibble_map.specs.Swaps.{entry}
use Rattle.nibble_map.specs.Trees.{first}
use Rattle.nibble_map.proofs.ListLemmas.Cut.{first-append}
use Rattle.nibble_map.proofs.ListLemmas.Sorted.{tied_lists_equal}
use Rattle.nibble_map.proofs.MapLemmas.Bridge.{entries-retain_keys}
use Rattle.radix_nodes.specs.declared.trie_node.KeyValue.{KeyValue}
use Rattle.radix_nodes.specs.declared.trie_node.TrieNode.{TrieNode, out-TrieNode}
use Rattle.radix_nodes.specs.Nodes.{tree_of, IsStep}
use Rattle.radix_nodes.specs.Pairs.{own_pair, pairs_of}
use Rattle.radix_nodes.proofs.EditLemmas.Steps.{step_is_child}
use Rattle.radix_trie.specs.Roots.{IsRoot}
use Rattle.radix_trie.specs.Views.{pairs_above}
use Rattle.radix_trie.specs.Walks.{prefix_pairs}
use Rattle.radix_trie.proofs.PathLemmas.NodesBelow.{filter-map}
use Rattle.radix_trie.proofs.PathLemmas.Parts.{filter_none, first_low, first_same, has_child, is_prefix-apart}
use Rattle.radix_trie.proofs.RootLemmas.Shown.{row_of, entries_of-root}
use Rattle.radix_trie.proofs.WalkLemmas.Tested.{where-append, where-more, where_behind}

-- behind a common beginning the test for a prefix is that of the rests
is_prefix-behind : (p x rest : List ℕ) → is_prefix (p ++ x) (p ++ rest) ≡ is_prefix x rest
is_prefix-behind [] x rest = refl
is_prefix-behind (a ∷ p) x rest = rw (eq-eqb a a refl) (is_prefix-behind p x rest)

module _ {K V : Type 0} where
  -- an entry whose path is no prefix of the list gives no pair
  no_own : (q rest : List ℕ) (o : Option (KeyValue K V)) → (IsPrefix q rest → ⊥) → prefix_pairs rest (entry q o) ≡ []
  no_own q rest None apart = refl
  no_own q rest (Some x) apart = ap (λ b. pairs_of (cond b ((q, x) ∷ []) [])) (is_prefix-apart q rest apart)

  -- where no path below some children is a prefix of the list, they give no pair
  none_below : (q rest : List ℕ) (k : Children (KeyValue K V)) → ((y : List ℕ) (w : Tree (KeyValue K V)) → IsChildAt k y w → IsPrefix (q ++ y) rest → ⊥)
      → prefix_pairs rest (entries_in q k) ≡ []
  none_below q rest k apart =
      ap pairs_of (filter_none (λ (e : List ℕ × KeyValue K V). is_prefix e.0 rest) (entries_in q k)
      (λ e h. let r = has_child q k e.0 e.1 h in is_prefix-apart e.0 rest (λ i. apart r.0 r.1 r.3 (subst (λ y. IsPrefix y rest) r.2 i))))

  -- the pair of an entry at the empty path
  own_at_top : (rest : List ℕ) (o : Option (KeyValue K V)) → prefix_pairs rest (entry [] o) ≡ own_pair o
  own_at_top rest None = refl
  own_at_top rest (Some x) = refl

  -- the pairs of a node at the path f that a list goes on to: the node's own, and those on the way below it
  at_child : (f left : List ℕ) (o : Option (KeyValue K V)) (k : Children (KeyValue K V))
      → prefix_pairs (f ++ left) (entry f o) ++ prefix_pairs (f ++ left) (entries_in f k) ≡ own_pair o ++ prefix_pairs left (entries_in [] k)
  at_child f left o k =
      sym (where-append (λ e. is_prefix e (f ++ left)) (entry f o) (entries_in f k))
      ∙ where_behind (λ e. is_prefix e (f ++ left)) (λ e. is_prefix e left) f (λ y. is_prefix-behind f y left) o k
      ∙ where-append (λ e. is_prefix e left) (entry [] o) (entries_in [] k)
      ∙ ap (λ ps. ps ++ prefix_pairs left (entries_in [] k)) (own_at_top left o)

  -- where the list goes on to a child, the pairs on the way are its own, and those on the way below it
  in_child : (low i : ℕ) (k : Children (KeyValue K V)) (u : Tree (KeyValue K V)) (left : List ℕ) → IsPlaced low k → IsAt i k u
      → prefix_pairs (u.fragment ++ left) (entries_in [] k) ≡ own_pair u.pair ++ prefix_pairs left (entries_in [] u.children)
  in_child low i none u left h at = absurd at
  in_child low zero (more f o m children others) u left h at =
      subst (λ (v : Tree (KeyValue K V)). prefix_pairs (v.fragment ++ left) (entries_in [] (more f o m children others)) ≡ own_pair v.pair ++ prefix_pairs left (entries_in [] v.children)) (sym at)
      (where-more (λ e. is_prefix e (f ++ left)) [] f o m children others
      ∙ (λ i. at_child f left o children i ++ none_below [] (f ++ left) others apart i)
      ∙ append-nil (own_pair o ++ prefix_pairs left (entries_in [] children)))
    where
      apart : (y : List ℕ) (w : Tree (KeyValue K V)) → IsChildAt others y w → IsPrefix y (f ++ left) → ⊥
      apart y w d pre =
          let l = first_low (suc (first f)) others y w pre.0 h.4 d in
          let a = ap first pre.1 in let b = first-append f left h.0 in omega (arith, l, a, b)
  in_child low (suc i) (more f o m children others) u left h at =
      where-more (λ e. is_prefix e (u.fragment ++ left)) [] f o m children others
      ∙ (λ j. (no_own f (u.fragment ++ left) o own_apart j ++ none_below f (u.fragment ++ left) children apart j) ++ in_child (suc (first f)) i others u left h.4 at j)
    where
      -- the list begins with a higher nibble than f
      higher : suc (first f) ≤ first (u.fragment ++ left)
      higher =
          let l = child_begins_from (suc (first f)) i others u at h.4 in
          let e = first-append u.fragment left (child_tree_is_placed (suc (first f)) i others u at h.4).0 in omega (arith, l, e)

      own_apart : IsPrefix f (u.fragment ++ left) → ⊥
      own_apart pre = let a = ap first pre.1 in let b = first-append f pre.0 h.0 in let l = higher in omega (arith, l, a, b)

      apart : (y : List ℕ) (w : Tree (KeyValue K V)) → IsChildAt children y w → IsPrefix (f ++ y) (u.fragment ++ left) → ⊥
      apart y w d pre = let a = ap first pre.1 in let b = first_same f (f ++ y) y pre.0 h.0 refl in let l = higher in omega (arith, l, a, b)

  -- where the list goes on to no child, no pair below is on the way
  pub none_on_way : (t : Tree (KeyValue K V)) (rest : List ℕ) → IsStuck t rest → prefix_pairs rest (entries_in [] t.children) ≡ []
  none_on_way t rest stuck = none_below [] rest t.children stuck

  -- after a step from n to its child m, the pairs on the way below n are the child's own, and those on the way below it
  pub after_step : (n m : TrieNode K V) (list : List ℕ) (depth i next : ℕ) → IsTreePlaced (tree_of n) → IsStep n list depth i next → (b : Box (TrieNode K V) Global)
      → get_or (out-TrieNode K V n).children.items i b ≡ b → m ≡ b.value
      → prefix_pairs (drop depth list) (entries_in [] (tree_of n).children) ≡ own_pair (tree_of m).pair ++ prefix_pairs (drop next list) (entries_in [] (tree_of m).children)
  after_step n m list depth i next placed s b is em =
      let at : IsAt i (tree_of n).children (tree_of m) = subst (λ k. IsAt i (tree_of n).children (tree_of k)) (sym em) (step_is_child n list depth i placed next b s is) in
      ap (λ r. prefix_pairs r (entries_in [] (tree_of n).children)) (sym (s.path (tree_of m) at)) ∙ in_child 0 i (tree_of n).children (tree_of m) (drop next list) placed.1 at

  -- on the way from the root are the pairs of the map whose lists are prefixes of the list
  pub pairs_above-root : (enc : K → List ℕ) (m : PairMap K V) (t : Tree (KeyValue K V)) → IsRoot enc m t → (list : List ℕ)
      → own_pair t.pair ++ prefix_pairs list (entries_in [] t.children) ≡ pairs_above m list
  pairs_above-root enc m t root list =
      sym (ap (map (λ e. e.1))
      (entries-retain_keys _ nat_list_cmp_total tied_lists_equal m (λ p. is_prefix p list)
      ∙ ap (filter (λ e. is_prefix e.0 list)) (sym root.canonical.pairs ∙ entries_of-root t root.top)
      ∙ filter-map (λ (e : List ℕ × (K × V)). is_prefix e.0 list) row_of (entries_at [] t))
      ∙ map-map (λ e. e.1) row_of (filter (λ e. is_prefix e.0 list) (entries_at [] t))
      ∙ ap (λ f. prefix_pairs list (entry f t.pair ++ entries_in f t.children)) root.top
      ∙ where-append (λ e. is_prefix e list) (entry [] t.pair) (entries_in [] t.children)
      ∙ ap (λ ps. ps ++ prefix_pairs list (entries_in [] t.children)) (own_at_top list t.pair))
