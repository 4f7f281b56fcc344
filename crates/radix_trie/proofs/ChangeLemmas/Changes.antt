-- What a change of the root's tree does to the map, and to what the trie keeps.
use Rattle.nibble_map.specs.Points.{IsSomePrefix}
use Rattle.nibble_map.specs.Stored.{IsStored}
use Rattle.std.proofs.Common.{◌≡◌, ℕ, suc, ◌+◌, ◌-◌, ◌*◌, ◌≤◌, ◌<◌, ◌^◌, List, [], ◌∷◌, ◌++◌, map, length, Option, Some, None, option_map, refl, ap, sym, subst, ◌∙◌, arith, drop}
use Rattle.std.proofs.Math.Nat.{mul-le-mul_right}
use Rattle.std.proofs.lemmas.List.{map-append}
use Rattle.masked_tree.proofs.TreeLemmas.Children.{swaps-length}
use Rattle.std.specs.FinMap as fin
use Rattle.masked_tree.specs.Alters.{Run, entry_at, AltersRoot, Edits, CutsRoot}
use Rattle.masked_tree.specs.Tree.{Tree, entries_at}
use Rattle.masked_tree.specs.Paths.{IsHeld, IsNodeAt}
use Rattle.nibble_map.specs.Lists.{Counts}
use Rattle.nibble_map.specs.Swaps.{Swaps, entry}
use Rattle.nibble_map.proofs.MapLemmas.Edits.{from_sorted-lists_swapped_over, get-lists_swapped_over, from_sorted-lists_swapped_out, get-lists_swapped_out}
use Rattle.nibble_map.proofs.TreeLemmas.Sizes.{nodes_bound}
use Rattle.nibble_map.proofs.TreeLemmas.SomePrefixes.{tree_nibbles}
use Rattle.radix_nodes.specs.declared.trie_node.KeyValue.{KeyValue}
use Rattle.radix_nodes.specs.declared.trie_node.TrieNode.{TrieNode}
use Rattle.radix_nodes.specs.Nodes.{tree_of, fragment_of}
use Rattle.radix_nodes.proofs.NodeLemmas.Nodes.{fragment-tree_of}
use Rattle.radix_nodes.specs.Pairs.{pair_of}
use Rattle.radix_trie.specs.Roots.{shown, entries_of, map_of, AllKeyed, IsKept}
use Rattle.radix_trie.proofs.RootLemmas.Shown.{row_of, row_of-entry, placed_full_is_shaped, entries_of-root, entries_rise, length-nodes_shown, nibbles_in-shown}
use Rattle.radix_trie.proofs.RootLemmas.Sizes.{some_prefixes_bound}

-- the swap of two runs is the swap of their images in the image of the list under f
swaps-map : {A B : Type 0} (f : A → B) (l r old new : List A) → Swaps l r old new → Swaps (map f l) (map f r) (map f old) (map f new)
swaps-map f l r old new s = record {
  before = map f s.before;
  after = map f s.after;
  was = ap (map f) s.was ∙ map-append f s.before (l ++ s.after) ∙ ap (λ es. map f s.before ++ es) (map-append f l s.after);
  is = ap (map f) s.is ∙ map-append f s.before (r ++ s.after) ∙ ap (λ es. map f s.before ++ es) (map-append f r s.after);
}

module _ {K V : Type 0} (enc : K → List ℕ) where
  -- keyed entries are keyed in both parts
  keyed_parts : (xs ys : List (List ℕ × (K × V))) → AllKeyed enc (xs ++ ys) → AllKeyed enc xs × AllKeyed enc ys
  keyed_parts [] ys h = (tt, h)
  keyed_parts (x ∷ xs) ys h = let r = keyed_parts xs ys h.2 in ((h.0, h.1, r.0), r.1)

  -- keyed entries after keyed entries are keyed
  keyed_append : (xs ys : List (List ℕ × (K × V))) → AllKeyed enc xs → AllKeyed enc ys → AllKeyed enc (xs ++ ys)
  keyed_append [] ys h k = k
  keyed_append (x ∷ xs) ys h k = (h.0, h.1, keyed_append xs ys h.2 k)

  -- keyed entries stay so where keyed ones come in place of a run
  keyed_swap : (l r old new : List (List ℕ × (K × V))) → Swaps l r old new → AllKeyed enc old → AllKeyed enc r → AllKeyed enc new
  keyed_swap l r old new s h k =
      let a = keyed_parts s.before (l ++ s.after) (subst (AllKeyed enc) s.was h) in
      subst (AllKeyed enc) (sym s.is) (keyed_append s.before (r ++ s.after) a.0 (keyed_append r s.after k (keyed_parts l s.after a.1).1))

  -- a run of a kept root's entries goes, and another comes
  module _ (old new : Tree (KeyValue K V)) (count nodes nibbles : ℕ) (gone come : Run (KeyValue K V)) (n m k l : ℕ)
      (kept : IsKept enc old count nodes nibbles) (a : AltersRoot gone come n m k l old new) where
    -- the rows of the run that goes
    abbrev was_rows : List (List ℕ × (K × V))
    was_rows = map row_of (gone [])

    -- the rows of the run that comes
    abbrev now_rows : List (List ℕ × (K × V))
    now_rows = map row_of (come [])

    -- the changed root's pairs are the old ones, with the rows that come for those that go
    pub run_change : Swaps was_rows now_rows (entries_of old) (entries_of new)
    run_change =
        let rows = swaps-map row_of _ _ _ _ (a.alters.swaps []) in
        let from = subst (λ es. Swaps was_rows now_rows es (map row_of (entries_at [] new))) (sym (entries_of-root old kept.top)) rows in
        subst (Swaps was_rows now_rows (entries_of old)) (sym (entries_of-root new (a.fragment ∙ kept.top))) from

    -- the count of pairs after the change, by the rows that go and those that come
    pub length-run_change : length (entries_of new) + length was_rows ≡ count + length now_rows
    length-run_change = let s = swaps-length _ _ _ _ run_change in omega (arith, s, kept.counted)

    -- the changed root is kept with the counts that add up, where the rows that come are keyed
    pub run_kept : (count' : ℕ) → AllKeyed enc now_rows → count' + length was_rows ≡ count + length now_rows
        → (nodes' nibbles' : ℕ) → nodes' + m ≡ nodes + n → nibbles' + l ≡ nibbles + k → IsKept enc new count' nodes' nibbles'
    run_kept count' keyed counted nodes' nibbles' noded nibbled = record {
      top = a.fragment ∙ kept.top;
      masked = a.alters.placed;
      full = a.below kept.full;
      keyed = keyed_swap _ _ _ _ run_change kept.keyed keyed;
      counted = omega (arith, length-run_change, counted);
      noded = omega (arith, a.alters.nodes, noded, kept.noded);
      nibbled = let s = ap length a.fragment in omega (arith, s, a.alters.nibbles, nibbled, kept.nibbled);
    }

  -- a change at p of a kept root
  module _ (old new : Tree (KeyValue K V)) (count nodes nibbles : ℕ) (p : List ℕ) (was now : Option (KeyValue K V)) (n m k l : ℕ)
      (kept : IsKept enc old count nodes nibbles) (a : AltersRoot (entry_at p was) (entry_at p now) n m k l old new) where
    -- the changed root's pairs are the old ones, with the new pair at p for the old one
    pub entry_change : Swaps (entry p (option_map pair_of was)) (entry p (option_map pair_of now)) (entries_of old) (entries_of new)
    entry_change =
        subst (λ es. Swaps (entry p (option_map pair_of was)) es (entries_of old) (entries_of new)) (row_of-entry p now)
        (subst (λ es. Swaps es (map row_of (entry p now)) (entries_of old) (entries_of new)) (row_of-entry p was)
        (run_change old new count nodes nibbles (entry_at p was) (entry_at p now) n m k l kept a))

    -- the changed root is kept with the counts that add up, where the new pair is keyed
    pub kept_after : (count' : ℕ) → AllKeyed enc (entry p (option_map pair_of now))
        → count' + length (entry p (option_map pair_of was)) ≡ count + length (entry p (option_map pair_of now))
        → (nodes' nibbles' : ℕ) → nodes' + m ≡ nodes + n → nibbles' + l ≡ nibbles + k → IsKept enc new count' nodes' nibbles'
    kept_after count' keyed counted =
        run_kept old new count nodes nibbles (entry_at p was) (entry_at p now) n m k l kept a count' (subst (AllKeyed enc) (sym (row_of-entry p now)) keyed)
        (let x = ap length (row_of-entry p was) in let y = ap length (row_of-entry p now) in omega (arith, x, y, counted))

  -- an insertion over what stood at p
  module _ (old new : Tree (KeyValue K V)) (count nodes nibbles : ℕ) (p : List ℕ) (x : KeyValue K V) (was : Option (KeyValue K V)) (n k : ℕ)
      (kept : IsKept enc old count nodes nibbles) (a : AltersRoot (entry_at p was) (entry_at p (Some x)) n 0 k 0 old new) where
    -- after an insertion into the tree the map is the old one with the pair inserted
    pub map_of-edit : map_of new ≡ fin.insert (map_of old) p (pair_of x)
    map_of-edit =
        from_sorted-lists_swapped_over p (option_map pair_of was) (pair_of x) (entries_of old) (entries_of new)
        (entries_rise old kept.masked kept.full) (entries_rise new a.alters.placed (a.below kept.full)) (entry_change old new count nodes nibbles p was (Some x) n 0 k 0 kept a)

    -- what stood at the place of an insertion is what the old map has there
    pub get-before_edit : fin.get (map_of old) p ≡ option_map pair_of was
    get-before_edit =
        get-lists_swapped_over p (option_map pair_of was) (pair_of x) (entries_of old) (entries_of new)
        (entries_rise old kept.masked kept.full) (entries_rise new a.alters.placed (a.below kept.full)) (entry_change old new count nodes nibbles p was (Some x) n 0 k 0 kept a)

  -- a removal of what stood at p
  module _ (old new : Tree (KeyValue K V)) (count nodes nibbles : ℕ) (p : List ℕ) (x : KeyValue K V) (m l : ℕ)
      (kept : IsKept enc old count nodes nibbles) (a : CutsRoot p x m l old new) where
    -- after a removal from the tree the map is the old one with the list removed
    pub map_of-cut : map_of new ≡ fin.remove (map_of old) p
    map_of-cut =
        from_sorted-lists_swapped_out p (pair_of x) (entries_of old) (entries_of new) (entries_rise old kept.masked kept.full)
        (entry_change old new count nodes nibbles p (Some x) None 0 m 0 l kept a)

    -- the pair that a removal took is what the old map has there
    pub get-before_cut : fin.get (map_of old) p ≡ Some (pair_of x)
    get-before_cut =
        get-lists_swapped_out p (pair_of x) (entries_of old) (entries_of new) (entries_rise old kept.masked kept.full)
        (entry_change old new count nodes nibbles p (Some x) None 0 m 0 l kept a)

  -- both counts are within `u128`
  module _ (t : Tree (KeyValue K V)) (count nodes nibbles : ℕ) (kept : IsKept enc t count nodes nibbles) where
    -- a kept root of n pairs has at most 2 * n + 1 nodes
    pub nodes_fit : nodes ≤ suc (2 * count)
    nodes_fit =
        let few = nodes_bound (shown t) (placed_full_is_shaped 0 t.children kept.masked.1 kept.full) in
        omega (arith, few, length-nodes_shown t, kept.noded, kept.counted)

    -- a kept root of n pairs has at most n * (2 ^ 64 - 1) nibbles in its fragments
    nibbles_fit : nibbles ≤ count * (2 ^ 64 - 1)
    nibbles_fit =
        let some_prefixes : Counts (IsSomePrefix (IsStored (entries_of t))) nibbles = subst (Counts (IsSomePrefix (IsStored (entries_of t)))) (nibbles_in-shown t ∙ kept.nibbled) (tree_nibbles (shown t) (placed_full_is_shaped 0 t.children kept.masked.1 kept.full)) in
        subst (λ c. nibbles ≤ c * (2 ^ 64 - 1)) kept.counted (some_prefixes_bound enc (entries_of t) nibbles kept.keyed some_prefixes)

    -- a kept root of fewer than 2 ^ 64 pairs has fewer than 2 ^ 128 nibbles in its fragments
    pub nibbles_within : count < 2 ^ 64 → nibbles < 2 ^ 128
    nibbles_within small =
        let most : count ≤ 2 ^ 64 - 1 = omega arith in
        omega (arith, nibbles_fit, mul-le-mul_right (2 ^ 64 - 1) most)

module _ {K V : Type 0} where
  -- a list behind the root's fragment, which is empty, is that list
  pub append-root_fragment : (root : TrieNode K V) (list q : List ℕ) → (tree_of root).fragment ≡ [] → list ≡ q → fragment_of root ++ list ≡ q
  append-root_fragment root list q top is = ap (λ f. f ++ list) (sym (fragment-tree_of root) ∙ top) ∙ is

  -- a removal behind the root's fragment is one at the list itself
  pub removed_at : (root : TrieNode K V) (new : Tree (KeyValue K V)) (list q : List ℕ) (x : KeyValue K V) (m l : ℕ) → (tree_of root).fragment ≡ [] → list ≡ q
      → CutsRoot (fragment_of root ++ list) x m l (tree_of root) new → CutsRoot q x m l (tree_of root) new
  removed_at root new list q x m l top is a = subst (λ p. CutsRoot p x m l (tree_of root) new) (append-root_fragment root list q top is) a

  -- an insertion behind the root's fragment is a change of the root at the list itself
  pub inserted_at : (root : TrieNode K V) (new : Tree (KeyValue K V)) (list q : List ℕ) (x : KeyValue K V) (was : Option (KeyValue K V)) (n k : ℕ)
      → (tree_of root).fragment ≡ [] → list ≡ q → Edits (fragment_of root ++ drop 0 list) x was n k (tree_of root) new
      → AltersRoot (entry_at q was) (entry_at q (Some x)) n 0 k 0 (tree_of root) new
  inserted_at root new list q x was n k top is e = subst (λ p. AltersRoot (entry_at p was) (entry_at p (Some x)) n 0 k 0 (tree_of root) new) (append-root_fragment root list q top is) e.root

  -- what the root doesn't hold behind its fragment it doesn't hold at the list itself
  pub unheld_at : (root : TrieNode K V) (list q : List ℕ) → (tree_of root).fragment ≡ [] → list ≡ q → (IsHeld (tree_of root) (fragment_of root ++ list) → ⊥)
      → IsHeld (tree_of root) q → ⊥
  unheld_at root list q top is apart = subst (λ p. IsHeld (tree_of root) p → ⊥) (append-root_fragment root list q top is) apart

  -- what the root holds behind its fragment it holds at the list itself
  pub held_at : (root : TrieNode K V) (list q : List ℕ) → (tree_of root).fragment ≡ [] → list ≡ q → IsHeld (tree_of root) (fragment_of root ++ list)
      → IsHeld (tree_of root) q
  held_at root list q top is h = subst (IsHeld (tree_of root)) (append-root_fragment root list q top is) h

module _ {K V : Type 0} where
  -- a node behind the root's fragment stands at the list itself
  pub node_at_root : (root : TrieNode K V) (list : List ℕ) (u : Tree (KeyValue K V)) → (tree_of root).fragment ≡ []
      → IsNodeAt (tree_of root) (fragment_of root ++ drop 0 list) u → IsNodeAt (tree_of root) list u
  node_at_root root list u top i = subst (λ p. IsNodeAt (tree_of root) p u) (append-root_fragment root list list top refl) i

  -- where no node stands behind the root's fragment, none stands at the list itself
  pub no_node_at_root : (root : TrieNode K V) (list : List ℕ) → (tree_of root).fragment ≡ []
      → ((u : Tree (KeyValue K V)) → IsNodeAt (tree_of root) (fragment_of root ++ drop 0 list) u → ⊥) → (u : Tree (KeyValue K V)) → IsNodeAt (tree_of root) list u → ⊥
  no_node_at_root root list top apart = subst (λ p. (u : Tree (KeyValue K V)) → IsNodeAt (tree_of root) p u → ⊥) (append-root_fragment root list list top refl) apart
