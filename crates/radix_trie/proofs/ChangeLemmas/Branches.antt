-- What a change of all values of a branch does to the map, and to what the trie keeps.
use Rattle.std.proofs.Common.{◌≡◌, ℕ, List, [], ◌∷◌, ◌++◌, filter, map, length, drop, refl, ap, sym, subst, ◌∙◌, arith, append-nil, inl, inr}
use Rattle.std.proofs.lemmas.List.{length-append, map-append, nil_from_length}
use Rattle.std.proofs.lemmas.List.Elements.{filter-append}
use Rattle.std.specs.Fn.{Shared}
use denote.Ref.{Bor, MutBor}
use Rattle.masked_tree.specs.Alters.{AltersRoot, all_of}
use Rattle.masked_tree.specs.Paths.{IsPath}
use Rattle.masked_tree.specs.Same.{AreEntryCopies, IsCopy}
use Rattle.masked_tree.specs.Tree.{Tree, IsFullBelow, IsTreePlaced, entries_at, entries_in}
use Rattle.masked_tree.proofs.SameLemmas.Copies.{copy_entries, map_copied, rows_copied}
use Rattle.nibble_map.specs.Copies.{IsMapCopy}
use Rattle.nibble_map.specs.Lists.{IsPrefix, is_prefix}
use Rattle.nibble_map.specs.Maps.{below, walk, without_below}
use Rattle.nibble_map.specs.Swaps.{Swaps, entry}
use Rattle.nibble_map.proofs.MapLemmas.Edits.{walk-by_entries}
use Rattle.nibble_map.proofs.MapLemmas.Without.{from_sorted-run_cut}
use Rattle.radix_nodes.specs.declared.trie_node.KeyValue.{KeyValue}
use Rattle.radix_nodes.specs.Lending.{IsLike, keyed, keys_of}
use Rattle.radix_nodes.specs.Pairs.{pair_of}
use Rattle.radix_nodes.specs.Prunes.{IsBranch}
use Rattle.radix_nodes.specs.declared.trie_node.TrieNode.{TrieNode}
use Rattle.radix_nodes.specs.Nodes.{fragment_of, tree_of}
use Rattle.radix_nodes.specs.Values.{ChangesBranch, LeavesAtPair}
use Rattle.radix_trie.specs.Roots.{entries_of, map_of, IsKept}
use Rattle.radix_trie.specs.Values.{ChangesEachPair}
use Rattle.radix_trie.proofs.ChangeLemmas.Changes.{append-root_fragment, run_change}
use Rattle.radix_trie.proofs.ChangeLemmas.Written.{like_kept}
use Rattle.radix_trie.proofs.PathLemmas.NodesBelow.{filter-map, path_leads, walk-no_path}
use Rattle.radix_trie.proofs.PathLemmas.Parts.{all_kept, entries_under, entries_under-node, own_kept}
use Rattle.radix_trie.proofs.RootLemmas.Shown.{row_of, entries-map_of, entries_of-root, entries_rise, kept_root}

module _ {P : Type 0} (p : List ℕ) where
  -- all entries of a tree whose path has the prefix p have it
  pub branch_kept : (s : List ℕ) (u : Tree P) → IsPrefix p (s ++ u.fragment) → entries_under p (entries_at s u) ≡ entries_at s u
  branch_kept s u i =
      filter-append _ (entry (s ++ u.fragment) u.pair) (entries_in (s ++ u.fragment) u.children)
      ∙ (let own = own_kept p (s ++ u.fragment) u.pair i in let all = all_kept p (s ++ u.fragment) u.children i in λ n. own n ++ all n)

  -- where one run of all entries with the prefix p comes in the place of another, it is all of them
  pub swapped_under : (l r old new : List (List ℕ × P)) → Swaps l r old new → entries_under p l ≡ l → entries_under p r ≡ r → entries_under p old ≡ l → entries_under p new ≡ r
  swapped_under l r old new s left right is =
      let parts : entries_under p s.before ++ (l ++ entries_under p s.after) ≡ l =
      ap (λ g. entries_under p s.before ++ (g ++ entries_under p s.after)) (sym left) ∙ ap (λ es. entries_under p s.before ++ es) (sym (filter-append _ l s.after))
      ∙ sym (filter-append _ s.before (l ++ s.after)) ∙ ap (entries_under p) (sym s.was) ∙ is in
      let size = ap length parts in
      let a = length-append (entries_under p s.before) (l ++ entries_under p s.after) in
      let b = length-append l (entries_under p s.after) in
      let front : entries_under p s.before ≡ [] = nil_from_length _ (omega (arith, size, a, b)) in
      let back : entries_under p s.after ≡ [] = nil_from_length _ (omega (arith, size, a, b)) in
      ap (entries_under p) s.is
      ∙ filter-append _ s.before (r ++ s.after)
      ∙ (let mid : entries_under p (r ++ s.after) ≡ r ++ [] = filter-append _ r s.after ∙ (λ n. right n ++ back n) in λ n. front n ++ mid n)
      ∙ append-nil r

module _ {K V : Type 0} (R : K × V → V → Type 0) where
  -- the second pair has the first one's key, and R holds of the first pair and the second one's value
  abbrev pub ChangedPair : K × V → K × V → Type 0
  ChangedPair p q = (q.0 ≡ p.0) × R p q.1

  -- the same of what nodes keep
  abbrev pub Changed : KeyValue K V → KeyValue K V → Type 0
  Changed x y = ChangedPair (pair_of x) (pair_of y)

  -- changed entries have the same lists and keys
  keys_of-changed : (es ds : List (List ℕ × KeyValue K V)) → AreEntryCopies Changed es ds → keys_of ds ≡ keys_of es
  keys_of-changed [] [] c = refl
  keys_of-changed [] (d ∷ ds) c = absurd c
  keys_of-changed (e ∷ es) [] c = absurd c
  keys_of-changed (e ∷ es) (d ∷ ds) c = λ i. (c.0 i, c.1.0 i) ∷ keys_of-changed es ds c.2 i

  module _ (enc : K → List ℕ) (p : List ℕ) (old new : Tree (KeyValue K V)) (count nodes nibbles : ℕ) (kept : IsKept enc old count nodes nibbles) where
    -- the map's walk from p, by what is kept of the root's entries
    walk-kept : (t u : Tree (KeyValue K V)) (s : List ℕ) → IsTreePlaced t → IsFullBelow t → t.fragment ≡ [] → entries_under p (entries_at [] t) ≡ entries_at s u → walk (map_of t) p ≡ map row_of (entries_at s u)
    walk-kept t u s placed full top under =
        walk-by_entries (map_of t) p ∙ ap (filter (λ e. is_prefix p e.0)) (entries-map_of t placed full ∙ entries_of-root t top)
        ∙ filter-map (λ (e : List ℕ × (K × V)). is_prefix p e.0) row_of (entries_at [] t) ∙ ap (map row_of) under

    module _ (s : List ℕ) (was now : Tree (KeyValue K V)) (branch : IsBranch old was p s) (copy : IsCopy Changed was now) (alters : AltersRoot (all_of s was) (all_of s now) 0 0 0 0 old new) where
      -- the entries with the prefix p are those of the branch
      old_under : entries_under p (entries_at [] old) ≡ entries_at s was
      old_under =
          let x = p ++ drop branch.covered was.fragment in
          entries_under-node p old x was kept.masked branch.nearest.node
          (path_leads enc (map_of old) old (kept_root enc old count nodes nibbles kept) p x branch.nearest.shortest) branch.nearest.shortest.below
          ∙ ap (λ y. entry y was.pair ++ entries_in y was.children) (sym branch.path)

      -- the branch's path has the prefix p
      was_inside : IsPrefix p (s ++ was.fragment)
      was_inside = (drop branch.covered was.fragment, branch.path)

      -- after the change the entries with the prefix p are those of the copy
      new_under : entries_under p (entries_at [] new) ≡ entries_at s now
      new_under =
          swapped_under p _ _ _ _ (alters.alters.swaps []) (branch_kept p s was was_inside)
          (branch_kept p s now (subst (λ f. IsPrefix p (s ++ f)) (sym copy.fragment) was_inside)) old_under

      -- the changed root differs in values at most
      branch_like : IsLike old new
      branch_like = record {
        fragment = alters.fragment;
        placed = λ _. alters.alters.placed;
        below = alters.below;
        keys = λ q.
            let w = alters.alters.swaps q in
            let run = keys_of-changed _ _ (copy_entries Changed was now copy (q ++ s)) in
            ap keys_of w.is ∙ map-append keyed w.before _ ∙ ap (λ es. keys_of w.before ++ es) (map-append keyed (all_of s now q) w.after)
            ∙ ap (λ es. keys_of w.before ++ (es ++ keys_of w.after)) run
            ∙ ap (λ es. keys_of w.before ++ es) (sym (map-append keyed (all_of s was q) w.after)) ∙ sym (map-append keyed w.before _) ∙ ap keys_of (sym w.was);
        nodes = omega (arith, alters.alters.nodes);
        nibbles = let f = ap length alters.fragment in omega (arith, f, alters.alters.nibbles);
      }

      -- the changed root is kept, with the same counts
      pub branch_changed_kept : IsKept enc new count nodes nibbles
      branch_changed_kept = like_kept enc old new count nodes nibbles kept branch_like

      -- what is below p in the new map is a copy of what was in the old one
      pub branch_changed_map : IsMapCopy ChangedPair (below (map_of old) p) (below (map_of new) p)
      branch_changed_map =
          let before = walk-kept old was s kept.masked kept.full kept.top old_under in
          let after = walk-kept new now s branch_changed_kept.masked branch_changed_kept.full branch_changed_kept.top new_under in
          map_copied ChangedPair _ _ (subst (λ es. AreEntryCopies ChangedPair es (walk (map_of new) p)) (sym before)
          (subst (AreEntryCopies ChangedPair (map row_of (entries_at s was))) (sym after) (rows_copied pair_of ChangedPair _ _ (copy_entries Changed was now copy s))))

      -- a root's rows with the prefix p, by what is kept of its entries
      rows_under : (t u : Tree (KeyValue K V)) → t.fragment ≡ [] → entries_under p (entries_at [] t) ≡ entries_at s u → filter (λ e. is_prefix p e.0) (entries_of t) ≡ map row_of (entries_at s u)
      rows_under t u top under = ap (filter (λ e. is_prefix p e.0)) (entries_of-root t top) ∙ filter-map (λ (e : List ℕ × (K × V)). is_prefix p e.0) row_of (entries_at [] t) ∙ ap (map row_of) under

      -- the new map without all below p is the old one without it
      pub branch_changed_rest : without_below (map_of new) p ≡ without_below (map_of old) p
      branch_changed_rest =
          let w = run_change enc old new count nodes nibbles (all_of s was) (all_of s now) 0 0 0 0 kept alters in
          let k = branch_changed_kept in
          sym (from_sorted-run_cut p _ (entries_of new) (w.before ++ w.after) (entries_rise new k.masked k.full) record { before = w.before; after = w.after; was = w.is; is = refl } (rows_under new now k.top new_under))
          ∙ from_sorted-run_cut p _ (entries_of old) (w.before ++ w.after) (entries_rise old kept.masked kept.full) record { before = w.before; after = w.after; was = w.was; is = refl } (rows_under old was kept.top old_under)

    -- where nothing stands at and below p, and nothing changes, the copy is one of no pairs
    pub nothing_changed_map : new ≡ old → ((q : List ℕ) → IsPath old q → IsPrefix p q → ⊥) → IsMapCopy ChangedPair (below (map_of old) p) (below (map_of new) p)
    nothing_changed_map same apart =
        let none = walk-no_path enc (map_of old) old (kept_root enc old count nodes nibbles kept) p apart in
        subst (λ t. IsMapCopy ChangedPair (below (map_of old) p) (below (map_of t) p)) (sym same) (map_copied ChangedPair _ _ (subst (λ es. AreEntryCopies ChangedPair es es) (sym none) tt))

module _ {F K V : Type 0} (g : Shared F (Bor K × (MutBor V × Unit {0})) (Unit {0} × (MutBor V × Unit {0}))) (f : F) where
  -- a change behind the root's fragment, which is empty, is one at the list itself
  pub changed_at : (root : TrieNode K V) (new : Tree (KeyValue K V)) (list : List ℕ) → (tree_of root).fragment ≡ [] → ChangesBranch g f (fragment_of root ++ drop 0 list) (tree_of root) new → ChangesBranch g f list (tree_of root) new
  changed_at root new list top c = subst (λ p. ChangesBranch g f p (tree_of root) new) (append-root_fragment root list list top refl) c

  module _ (enc : K → List ℕ) (p : List ℕ) (old new : Tree (KeyValue K V)) (count nodes nibbles : ℕ) (kept : IsKept enc old count nodes nibbles) where
    -- whatever stands at and below p, the changed root is kept
    pub changed_kept : ChangesBranch g f p old new → IsKept enc new count nodes nibbles
    changed_kept (inl c) = branch_changed_kept (LeavesAtPair g f) enc p old new count nodes nibbles kept c.path c.was c.now c.branch c.copy c.alters.root
    changed_kept (inr c) = subst (λ t. IsKept enc t count nodes nibbles) (sym c.0) kept

    -- and what is below p in the new map is a copy of what was in the old one
    pub changed_map : ChangesBranch g f p old new → ChangesEachPair (LeavesAtPair g f) (below (map_of old) p) (below (map_of new) p)
    changed_map (inl c) = branch_changed_map (LeavesAtPair g f) enc p old new count nodes nibbles kept c.path c.was c.now c.branch c.copy c.alters.root
    changed_map (inr c) = nothing_changed_map (LeavesAtPair g f) enc p old new count nodes nibbles kept c.0 c.1

    -- and the rest stays
    pub changed_rest : ChangesBranch g f p old new → without_below (map_of new) p ≡ without_below (map_of old) p
    changed_rest (inl c) = branch_changed_rest (LeavesAtPair g f) enc p old new count nodes nibbles kept c.path c.was c.now c.branch c.copy c.alters.root
    changed_rest (inr c) = ap (λ t. without_below (map_of t) p) c.0
