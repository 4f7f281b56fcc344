-- What a copy of a kept root keeps, and which map it stands for.
use Rattle.std.proofs.Common.{◌≡◌, ℕ, suc, ◌+◌, ◌<◌, ◌^◌, ◌⊎◌, inl, inr, List, [], ◌∷◌, ◌++◌, map, length, Option, Some, None, IsSome, refl, ap, sym, subst, ◌∙◌, arith}
use Rattle.std.proofs.lemmas.List.{length-append, length-map}
use Rattle.std.specs.FinMap as fin
use Rattle.masked_tree.specs.Tree.{Tree, Children, none, more, plain, entries_in, entries_at}
use Rattle.masked_tree.specs.Same.{IsFullRoot, IsCopy, AreEntryCopies}
use Rattle.nibble_map.specs.Copies.{IsMapCopy}
use Rattle.nibble_map.specs.Swaps.{entry}
use Rattle.nibble_map.specs.Trees.{AreMany, IsFull}
use Rattle.nibble_map.proofs.MapLemmas.SameTests.{anything_of_false}
use Rattle.masked_tree.proofs.SameLemmas.Copies.{root_copied, nodes_in-copy, nibbles_in-copy, copy_entries, root_map_copied}
use Rattle.radix_nodes.specs.declared.trie_node.KeyValue.{KeyValue}
use Rattle.radix_nodes.specs.Pairs.{pair_of}
use Rattle.radix_trie.specs.Roots.{map_of, AllKeyed, IsKept}
use Rattle.radix_trie.proofs.RootLemmas.Shown.{row_of, entries_of-root}

module _ {K V : Type 0} (enc : K → List ℕ) (S : K × V → K × V → Type 0) (same : (x y : K × V) → S x y → enc y.0 ≡ enc x.0) where
  -- S holds of what nodes keep
  abbrev Copied : KeyValue K V → KeyValue K V → Type 0
  Copied x y = S (pair_of x) (pair_of y)

  -- copies of keyed entries are keyed
  copies_keyed : (es ds : List (List ℕ × KeyValue K V)) → AreEntryCopies Copied es ds → AllKeyed enc (map row_of es) → AllKeyed enc (map row_of ds)
  copies_keyed [] [] c h = tt
  copies_keyed [] (d ∷ ds) c h = absurd c
  copies_keyed (e ∷ es) [] c h = absurd c
  copies_keyed (e ∷ es) (d ∷ ds) c h =
      (c.0 ∙ h.0 ∙ sym (same (pair_of e.1) (pair_of d.1) c.1), subst (λ p. length p < 2 ^ 64) (sym c.0) h.1, copies_keyed es ds c.2 h.2)

  -- copies of entries are as many
  copies_counted : (es ds : List (List ℕ × KeyValue K V)) → AreEntryCopies Copied es ds → length (map row_of ds) ≡ length (map row_of es)
  copies_counted [] [] c = refl
  copies_counted [] (d ∷ ds) c = absurd c
  copies_counted (e ∷ es) [] c = absurd c
  copies_counted (e ∷ es) (d ∷ ds) c = ap suc (copies_counted es ds c.2)

  module _ (t u : Tree (KeyValue K V)) (count nodes nibbles : ℕ) (kept : IsKept enc t count nodes nibbles) (copy : IsCopy Copied t u) where
    -- what is copied is a full root
    full_root : IsFullRoot t
    full_root = record { top = kept.top; placed = kept.masked; full = kept.full }

    -- a copy of a kept root is kept, with the same counts
    pub copy_kept : IsKept enc u count nodes nibbles
    copy_kept =
        let root = root_copied Copied t u copy full_root in
        let entries = copy_entries Copied t u copy [] in record {
          top = root.top;
          masked = root.placed;
          full = root.full;
          keyed = subst (AllKeyed enc) (sym (entries_of-root u root.top)) (copies_keyed _ _ entries (subst (AllKeyed enc) (entries_of-root t kept.top) kept.keyed));
          counted = ap length (entries_of-root u root.top) ∙ copies_counted _ _ entries ∙ ap length (sym (entries_of-root t kept.top)) ∙ kept.counted;
          noded = ap suc (nodes_in-copy Copied t u copy) ∙ kept.noded;
          nibbled = nibbles_in-copy Copied t u copy ∙ kept.nibbled;
        }

    -- the copy's map is a copy of the map
    pub copy_map : IsMapCopy S (map_of t) (map_of u)
    copy_map =
        let root = root_copied Copied t u copy full_root in
        subst (λ m. IsMapCopy S m (map_of u)) (ap fin.from_sorted (sym (entries_of-root t kept.top)))
        (subst (λ m. IsMapCopy S (fin.from_sorted (map row_of (entries_at [] t))) m) (ap fin.from_sorted (sym (entries_of-root u root.top)))
        (root_map_copied pair_of S t u full_root copy))

-- the root of a trie without pairs has no pair and no child
module _ {K V : Type 0} where
  -- full children that hold no pair are none
  pub no_children : (q : List ℕ) (k : Children (KeyValue K V)) → IsFull (plain k) → length (entries_in q k) ≡ 0 → k ≡ none
  no_children q none full i = refl
  no_children q (more f (Some x) m children others) full i = absurd (let j : suc (length (entries_in (q ++ f) children ++ entries_in q others)) ≡ 0 = i in cc j)
  no_children q (more f None m children others) full i =
      let none_below = no_children (q ++ f) children full.1 (omega (arith, i, length-append (entries_in (q ++ f) children) (entries_in q others))) in
      absurd (by none_below full.0)
    where
      by : children ≡ none → IsSome {T = KeyValue K V} None ⊎ AreMany (plain children) → ⊥
      by e (inl h) = anything_of_false h
      by e (inr many) = subst (λ k. AreMany (plain k)) e many

  module _ (enc : K → List ℕ) (t : Tree (KeyValue K V)) (count nodes nibbles : ℕ) (kept : IsKept enc t count nodes nibbles) (nothing : count ≡ 0) where
    -- a kept root of no pairs has neither an own entry nor one below
    length_rows : length (entry {X = KeyValue K V} t.fragment t.pair) + length (entries_in t.fragment t.children) ≡ 0
    length_rows =
        sym (length-append (entry t.fragment t.pair) (entries_in t.fragment t.children)) ∙ sym (length-map (entries_at [] t) row_of)
        ∙ ap length (sym (entries_of-root t kept.top)) ∙ kept.counted ∙ nothing

    -- a kept root of no pairs has no pair of its own
    pub pair-empty_root : t.pair ≡ None
    pair-empty_root = by t.pair length_rows
      where
        by : (o : Option (KeyValue K V)) → length (entry t.fragment o) + length (entries_in t.fragment t.children) ≡ 0 → o ≡ None
        by None i = refl
        by (Some x) i = absurd (omega (arith, i))

    -- a kept root of no pairs has no child
    pub children-empty_root : t.children ≡ none
    children-empty_root = no_children t.fragment t.children kept.full (omega (arith, length_rows))
