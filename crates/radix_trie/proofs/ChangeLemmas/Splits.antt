-- What a branch that was cut off is as a tree of its own.
use Rattle.std.proofs.Common.{◌≡◌, ◌≢◌, ℕ, suc, ◌+◌, ◌<◌, ◌^◌, List, [], ◌∷◌, ◌++◌, map, filter, drop, length, refl, ap, sym, subst, ◌∙◌, arith, append-nil, inl, inr, Bool}
use Rattle.std.proofs.lemmas.List.{length-append, length-map}
use Rattle.std.specs.FinMap as fin
use Rattle.masked_tree.specs.Alters.{PrunesRoot}
use Rattle.masked_tree.specs.Edits.{lowered}
use Rattle.masked_tree.specs.Paths.{IsNodeAt}
use Rattle.masked_tree.specs.Tree.{Tree, IsTreeFull, entries_at, entries_in, nodes_in, nibbles_in}
use Rattle.masked_tree.proofs.EditLemmas.Insertion.{lowered_placed}
use Rattle.masked_tree.proofs.TreeLemmas.Sizes.{length-entries_at}
use Rattle.nibble_map.specs.Answers.{IsShortest}
use Rattle.nibble_map.specs.Lists.{IsPrefix, is_prefix}
use Rattle.nibble_map.specs.Maps.{IsPoint, IsStored, below}
use Rattle.nibble_map.specs.Swaps.{entry}
use Rattle.nibble_map.specs.Trees.{first}
use Rattle.nibble_map.proofs.ListLemmas.Parted.{shortest_unique}
use Rattle.nibble_map.proofs.MapLemmas.Edits.{walk-by_entries}
use Rattle.radix_nodes.specs.Prunes.{IsBranch, IsSmall, branch_of, nodes_gone, nibbles_gone}
use Rattle.radix_nodes.specs.declared.removal.cut_child.Branch.{Branch}
use Rattle.radix_nodes.specs.declared.trie_node.KeyValue.{KeyValue}
use Rattle.radix_nodes.proofs.EditLemmas.Branches.{branch_is_small}
use Rattle.radix_trie.specs.Roots.{AllKeyed, IsKept, entries_of, map_of}
use Rattle.radix_trie.proofs.ChangeLemmas.Prunings.{rows_chosen, small_root}
use Rattle.radix_trie.proofs.PathLemmas.NodesBelow.{shortest_point}
use Rattle.radix_trie.proofs.PathLemmas.Parts.{child_full, node_placed, true_or_false}
use Rattle.radix_trie.proofs.RootLemmas.Shown.{row_of, entries-map_of, entries_of-root, kept_root}

-- the shortest point below a list, by equal maps and lists
pub nearest_in_equal : {P : Type 0} (m n : fin.FinMap _ P) (p r q x : List ℕ) → m ≡ n → p ≡ r → q ≡ x → IsShortest (IsPoint m) p q → IsShortest (IsPoint n) r x
nearest_in_equal m n p r q x same at path near = subst (λ y. IsShortest (IsPoint n) r y) path (subst (λ y. IsShortest (IsPoint n) y q) at (subst (λ y. IsShortest (IsPoint y) p q) same near))

-- that no point goes on from a list, by equal maps and lists
pub apart_in_equal : {P : Type 0} (m n : fin.FinMap _ P) (p r : List ℕ) → m ≡ n → p ≡ r → ((q : List ℕ) → IsPoint m q → IsPrefix p q → ⊥) → (q : List ℕ) → IsPoint n q → IsPrefix r q → ⊥
apart_in_equal m n p r same at apart = subst (λ x. (q : List ℕ) → IsPoint x q → IsPrefix r q → ⊥) same (subst (λ x. (q : List ℕ) → IsPoint m q → IsPrefix x q → ⊥) at apart)

-- what a branch that was cut off a kept root holds can be counted
pub cut_is_small : {K V : Type 0} (enc : K → List ℕ) (old : Tree (KeyValue K V)) (count nodes nibbles : ℕ) → IsKept enc old count nodes nibbles → count < 2 ^ 64
    → (new : Tree (KeyValue K V)) (b : Branch K V) (s : List ℕ) → PrunesRoot s (branch_of b) (nodes_gone b) (nibbles_gone b) old new → IsSmall (branch_of b)
cut_is_small enc old count nodes nibbles kept limit new b s cut =
    branch_is_small old new (branch_of b) s (nodes_gone b) (nibbles_gone b) (small_root enc old count nodes nibbles kept limit) cut (omega arith) (omega arith)

module _ {K V : Type 0} (enc : K → List ℕ) where
  -- those of keyed entries that pass a test are keyed
  keyed_filter : (test : List ℕ → Bool) (es : List (List ℕ × (K × V))) → AllKeyed enc es → AllKeyed enc (filter (λ e. test e.0) es)
  keyed_filter test [] h = tt
  keyed_filter test (e ∷ es) h = elim (true_or_false (test e.0)) [
    | inl y ↦ rw y (h.0, h.1, keyed_filter test es h.2)
    | inr y ↦ rw y (keyed_filter test es h.2)
  ]

  -- a branch was cut off a kept root, and q is the shortest point at and below p
  module _ (old : Tree (KeyValue K V)) (count nodes nibbles : ℕ) (kept : IsKept enc old count nodes nibbles) (new : Tree (KeyValue K V)) (p s : List ℕ) (u : Tree (KeyValue K V)) (m l : ℕ)
      (branch : IsBranch old u p s) (cut : PrunesRoot s u m l old new) (some : 0 < length p) (q : List ℕ) (nearest : IsShortest (IsPoint (map_of old)) p q) (low : first q < 16) where
    -- the branch below a root of its own
    abbrev part : Tree (KeyValue K V)
    part = lowered [] q u

    -- the branch's path is q
    pub branch_path : q ≡ s ++ u.fragment
    branch_path =
        shortest_unique (IsStored (map_of old)) p q (p ++ drop branch.covered u.fragment) nearest
        (shortest_point enc (map_of old) old (kept_root enc old count nodes nibbles kept) p (p ++ drop branch.covered u.fragment) branch.nearest.shortest)
        ∙ sym branch.path

    -- the branch stands at q
    branch_node : IsNodeAt old q u
    branch_node = subst (λ x. IsNodeAt old x u) (sym (branch_path ∙ branch.path)) branch.nearest.node

    -- q isn't empty
    path_some : q ≢ []
    path_some e = let i = nearest.below in let a = ap length (sym i.1 ∙ e) in let b = length-append p i.0 in absurd (omega (arith, a, b, some))

    -- the part's rows are the old root's with the prefix p
    part_rows : entries_of part ≡ filter (λ e. is_prefix p e.0) (entries_of old)
    part_rows =
        entries_of-root part refl
        ∙ ap (map row_of) (append-nil (entry q u.pair ++ entries_in q u.children) ∙ ap (λ y. entry y u.pair ++ entries_in y u.children) branch_path)
        ∙ sym (rows_chosen enc old count nodes nibbles kept new p s u m l branch cut)

    -- a branch below the root has a pair or two children
    branch_full : IsTreeFull u
    branch_full = by branch_node
      where
        by : IsNodeAt old q u → IsTreeFull u
        by (inl i) = absurd (path_some (i.0 ∙ kept.top))
        by (inr i) = child_full old.children i.0 u kept.full i.2

    -- the part is kept, with its own counts
    pub part_kept : (n k j : ℕ) → n ≡ length (entries_at [] u) → k ≡ suc (suc (nodes_in u.children)) → j ≡ length q + nibbles_in u.children → IsKept enc part n k j
    part_kept n k j counted noded nibbled = record {
      top = refl;
      masked = lowered_placed u [] q path_some low (node_placed old q u kept.masked branch_node);
      full = (branch_full.0, branch_full.1, tt);
      keyed = subst (AllKeyed enc) (sym part_rows) (keyed_filter (is_prefix p) (entries_of old) kept.keyed);
      counted =
          let r = ap length (entries_of-root part refl) in let w = length-map (entries_at [] part) row_of in let a = length-entries_at [] part in let b = length-entries_at [] u in
          omega (arith, r, w, a, b, counted);
      noded = omega (arith, noded);
      nibbled = omega (arith, nibbled);
    }

    -- the part's map is all at and below p
    pub map_of-part : map_of part ≡ below (map_of old) p
    map_of-part =
        let part_is = part_kept _ _ _ refl refl refl in
        fin.same_entries_map _ _
        (entries-map_of part part_is.masked part_is.full ∙ part_rows ∙ ap (filter (λ e. is_prefix p e.0)) (sym (entries-map_of old kept.masked kept.full)) ∙ sym (walk-by_entries (map_of old) p))
