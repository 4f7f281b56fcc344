-- What the removal of the pair at an end of the order of walks does to the map.
use Rattle.std.proofs.Common.{◌≡◌, List, [], map, ◌-◌, length, ℕ, Some, None, option_map, Ok, Err, inl, inr, refl, ap, sym, subst, ◌∙◌}
use Rattle.std.proofs.lemmas.List.{length-map}
use Rattle.std.proofs.lemmas.Option.{slice_get-map}
use Rattle.std.proofs.lemmas.Simd.{map-map}
use Rattle.std.specs.FinMap as fin
use Rattle.std.specs.List.{slice_get}
use Rattle.std.specs.Option.{ForSome}
use Rattle.nibble_map.specs.Maps.{PairMap}
use Rattle.masked_tree.specs.Alters.{CutsRoot}
use Rattle.masked_tree.specs.Paths.{IsNodeAt}
use Rattle.masked_tree.specs.Tree.{Tree, entries_at}
use Rattle.masked_tree.proofs.PathLemmas.Paths.{has_node, node_held}
use Rattle.radix_keys.specs.declared.nibbles.Memory.{Memory}
use Rattle.radix_nodes.specs.Ends.{at_end, IsEndEntry, RootPopOutcome}
use Rattle.radix_nodes.specs.Pairs.{pair_of, pairs_of}
use Rattle.radix_nodes.specs.declared.removal.pop.End.{End}
use Rattle.radix_nodes.specs.declared.removal.pop.End.TheVariants.{First, Last}
use Rattle.radix_nodes.specs.declared.removal.remove.Removed.{Removed}
use Rattle.radix_nodes.specs.declared.trie_node.KeyValue.{KeyValue}
use Rattle.radix_nodes.proofs.EditLemmas.Ends.{end_in_list}
use Rattle.radix_trie.specs.Refusals.{JoinsAreShort}
use Rattle.radix_trie.specs.Roots.{map_of, IsKept, IsRoot}
use Rattle.radix_trie.specs.Views.{pairs_below}
use Rattle.radix_trie.proofs.ChangeLemmas.Changes.{get-before_cut}
use Rattle.radix_trie.proofs.PathLemmas.Joins.{short_joins_fit}
use Rattle.radix_trie.proofs.PathLemmas.Loci.{below-nil}
use Rattle.radix_trie.proofs.RootLemmas.Held.{entries-root, held_stored, pair_of-node}
use Rattle.radix_trie.proofs.RootLemmas.Shown.{row_of, kept_root}
use Rattle.radix_trie.proofs.WalkLemmas.Keyed.{keyed_get}

-- the image of the item at an end is at that end of the images
at_end-map : {A B : Type 0} (f : A → B) (end : End) (xs : List A) → at_end end (map f xs) ≡ option_map f (at_end end xs)
at_end-map f First xs = slice_get-map f xs 0
at_end-map f Last xs = ap (λ n. slice_get (map f xs) (n - 1)) (length-map xs f) ∙ slice_get-map f xs (length xs - 1)

-- an empty list has no item at an end
at_end-nil : {A : Type 0} (end : End) → at_end {A = A} end [] ≡ None
at_end-nil First = refl
at_end-nil Last = refl

module _ {K V : Type 0} (enc : K → List ℕ) (t : Tree (KeyValue K V)) (count nodes nibbles : ℕ) (kept : IsKept enc t count nodes nibbles) (end : End) where
  -- the map that the root stands for
  abbrev m : PairMap K V
  m = map_of t

  -- the kept root is the map's
  root : IsRoot enc m t
  root = kept_root enc t count nodes nibbles kept

  -- the pairs of a walk are those of the root's entries
  pairs_below-root : pairs_below m [] ≡ pairs_of (entries_at [] t)
  pairs_below-root =
      ap (λ n. map (λ e. e.1) (fin.entries n)) (below-nil m) ∙ ap (λ es. map (λ e. e.1) es) (entries-root enc m t root)
      ∙ map-map (λ e. e.1) row_of (entries_at [] t)

  -- where the root has no entry, a walk has no pair at its end
  no_end : entries_at [] t ≡ [] → at_end end (pairs_below m []) ≡ None
  no_end none = ap (λ ps. at_end end ps) (pairs_below-root ∙ ap pairs_of none) ∙ at_end-nil end

  -- where the root's entry at this end is x at p
  module _ (p : List ℕ) (x : KeyValue K V) (e : IsEndEntry end t p x) where
    -- it is the pair at the walk's end
    end_pair : at_end end (pairs_below m []) ≡ Some (pair_of x)
    end_pair = ap (λ ps. at_end end ps) pairs_below-root ∙ at_end-map (λ e. pair_of e.1) end (entries_at [] t) ∙ ap (option_map (λ e. pair_of e.1)) (e [])

    -- a node has it at p
    end_node : (u : Tree (KeyValue K V)) × IsNodeAt t p u × (u.pair ≡ Some x)
    end_node = has_node t p x (end_in_list end (entries_at [] t) (p, x) (e []))

    -- the map has it at p
    got_end : fin.get m p ≡ Some (pair_of x)
    got_end = sym (pair_of-node enc m t root p end_node.0 end_node.1) ∙ ap (option_map pair_of) end_node.2

  module _ (new : Tree (KeyValue K V)) where
    -- what was removed stood at its key's encoding, and was the pair at the walk's end
    pub popped : (removed : Removed K V) → RootPopOutcome end (Ok (Some removed)) t new →
        CutsRoot (enc removed.pair.key) removed.pair removed.nodes removed.nibbles t new × (Some (pair_of removed.pair) ≡ at_end end (pairs_below m []))
    popped removed (inl h) = let n : Ok (Some removed) ≡ Ok None = h.1 in cc n
    popped removed (inr h) =
        let got = get-before_cut enc t new count nodes nibbles h.0 removed.pair removed.nodes removed.nibbles kept h.3 in (
          subst (λ q. CutsRoot q removed.pair removed.nodes removed.nibbles t new) (keyed_get enc m root.keyed h.0 (pair_of removed.pair) got) h.3,
          sym got ∙ got_end h.0 h.1 h.2 ∙ sym (end_pair h.0 h.1 h.2),
        )

    -- where nothing was removed, a walk has no pair
    pub none_popped : RootPopOutcome end (Ok None) t new → None ≡ at_end end (pairs_below m [])
    none_popped (inl h) = sym (no_end h.0)
    none_popped (inr h) = let n = end_node h.0 h.1 h.2 in absurd (h.3.1 (node_held t h.0 n.0 h.1 n.1 n.2))

    -- where memory was refused, the removal joins two fragments that aren't short together
    pub pop_refused : (e : Memory) → RootPopOutcome end (Err e) t new → ForSome (at_end end (pairs_below m [])) (λ pair. JoinsAreShort m (enc pair.0)) → ⊥
    pop_refused e (inl h) short = let n : Err e ≡ Ok None = h.1 in cc n
    pop_refused e (inr h) short =
        let at = keyed_get enc m root.keyed h.0 (pair_of h.1) (got_end h.0 h.1 h.2) in
        short_joins_fit enc m t root h.0 (held_stored enc t count nodes nibbles kept h.0 h.3.1)
        (subst (JoinsAreShort m) (sym at) (short (pair_of h.1) (end_pair h.0 h.1 h.2))) h.3.2
