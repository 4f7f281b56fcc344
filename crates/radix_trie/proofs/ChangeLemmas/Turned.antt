-- The trie of the wrapped keys: its root is a copy of the turned root, and its map holds the turned lists.
use Rattle.std.proofs.Common.{◌≡◌, ◌↔◌, ℕ, suc, ◌<◌, ◌^◌, inl, inr, List, [], ◌∷◌, map, length, refl, ap, sym, subst, ◌∙◌}
use Rattle.std.proofs.lemmas.List.{length-map}
use Rattle.std.specs.FinMap as fin
use Rattle.masked_tree.specs.Tree.{Tree, entries_at}
use Rattle.masked_tree.specs.Same.{IsCopy}
use Rattle.nibble_map.specs.Copies.{IsPairClone}
use Rattle.nibble_map.specs.Lists.{Has, Counts}
use Rattle.nibble_map.specs.Maps.{IsPoint, IsSomePrefix}
use Rattle.nibble_map.specs.Turned.{turned, IsTurnedCopy, IsSameFootprint}
use Rattle.masked_tree.specs.Turned.{turned_root}
use Rattle.nibble_map.proofs.ListLemmas.Turned.{turned-turned, length-turned}
use Rattle.masked_tree.proofs.TurnedLemmas.Trees.{turned_placed, turned_full, nodes_in-turned, nibbles_in-turned, length-turned_entries}
use Rattle.masked_tree.proofs.TurnedLemmas.Maps.{AreTurned, root_turned, turned_rows, copy_turned}
use Rattle.nibble_map.proofs.ListLemmas.Unique.{Counts-unique}
use Rattle.radix_nodes.specs.Copies.{IsKeyValueCopy}
use Rattle.radix_nodes.specs.declared.trie_node.KeyValue.{KeyValue}
use Rattle.radix_nodes.specs.Pairs.{pair_of}
use Rattle.radix_trie.specs.Roots.{entries_of, map_of, AllKeyed, IsKept}
use Rattle.radix_trie.proofs.ChangeLemmas.Copies.{copy_kept, copy_map}
use Rattle.radix_trie.proofs.RootLemmas.Shown.{row_of, entries_of-root, entries-map_of, kept_points, kept_some_prefixes}

-- what counts the one set counts the other
same_counts : (S T : List ℕ → Type 0) (n : ℕ) → Counts S n → Counts T n → (k : ℕ) → Counts S k ↔ Counts T k
same_counts S T n s t k = ((λ h. subst (Counts T) (Counts-unique S n k s h) t), (λ h. subst (Counts S) (Counts-unique T n k t h) s))

module _ {K V : Type 0} where
  -- an entry among keyed ones stands at its key's encoding, whose length is within `usize`
  keyed_has : (enc : K → List ℕ) (es : List (List ℕ × (K × V))) (e : List ℕ) (p : K × V) → AllKeyed enc es → Has es (e, p) → (e ≡ enc p.0) × (length e < 2 ^ 64)
  keyed_has enc [] e p h i = absurd i
  keyed_has enc (d ∷ es) e p h (inl i) = subst (λ (z : List ℕ × (K × V)). (z.0 ≡ enc z.1.0) × (length z.0 < 2 ^ 64)) (sym i) (h.0, h.1)
  keyed_has enc (d ∷ es) e p h (inr i) = keyed_has enc es e p h.2 i

  -- entries are keyed where each stands at its key's encoding, whose length is within `usize`
  has_keyed : (enc : K → List ℕ) (es : List (List ℕ × (K × V))) → ((e : List ℕ) (p : K × V) → Has es (e, p) → (e ≡ enc p.0) × (length e < 2 ^ 64)) → AllKeyed enc es
  has_keyed enc [] h = tt
  has_keyed enc (d ∷ es) h = ((h d.0 d.1 (inl refl)).0, (h d.0 d.1 (inl refl)).1, has_keyed enc es (λ e p i. h e p (inr i)))

module _ {K V : Type 0} (enc wrapped : K → List ℕ) (is_value_clone : V → V → Type 0) (wrapped_is : (k : K) → wrapped k ≡ turned (enc k)) where
  -- turned entries are keyed by the wrapped keys' encoding
  keyed_turned : (es ds : List (List ℕ × (K × V))) → AreTurned es ds → AllKeyed enc es → AllKeyed wrapped ds
  keyed_turned es ds s h = has_keyed wrapped ds (λ e p i.
      (let k = keyed_has enc es (turned e) p h (s.back e p i) in
      (sym (turned-turned e) ∙ ap turned k.0 ∙ sym (wrapped_is p.0), subst (λ n. n < 2 ^ 64) (length-turned e) k.1)))

  module _ (t u : Tree (KeyValue K V)) (count nodes nibbles : ℕ) (kept : IsKept enc t count nodes nibbles)
      (copy : IsCopy (IsKeyValueCopy (λ x y. y ≡ x) is_value_clone) (turned_root t) u) where
    -- the entries of the turned root are the turned entries of the root
    entries_turned : AreTurned (entries_of t) (entries_of (turned_root t))
    entries_turned = subst (λ es. AreTurned es (entries_of (turned_root t))) (sym (entries_of-root t kept.top))
        (subst (AreTurned (map row_of (entries_at [] t))) (sym (entries_of-root (turned_root t) kept.top)) (turned_rows pair_of _ _ (root_turned t kept.top kept.masked)))

    -- the turned root is kept for the wrapped keys, with the same counts
    turned_kept : IsKept wrapped (turned_root t) count nodes nibbles
    turned_kept = record {
      top = kept.top;
      masked = turned_placed t kept.masked;
      full = turned_full t kept.masked kept.full;
      keyed = keyed_turned (entries_of t) (entries_of (turned_root t)) entries_turned kept.keyed;
      counted = ap length (entries_of-root (turned_root t) kept.top) ∙ length-map (entries_at [] (turned_root t)) row_of ∙ length-turned_entries t ∙ sym (length-map (entries_at [] t) row_of)
          ∙ ap length (sym (entries_of-root t kept.top)) ∙ kept.counted;
      noded = ap suc (nodes_in-turned t.children) ∙ kept.noded;
      nibbled = nibbles_in-turned t.children ∙ kept.nibbled;
    }

    -- a copy of the turned root is kept for the wrapped keys, with the same counts
    pub wrapped_kept : IsKept wrapped u count nodes nibbles
    wrapped_kept = copy_kept wrapped (IsPairClone (λ x y. y ≡ x) is_value_clone) (λ x y e. ap wrapped e.0) (turned_root t) u count nodes nibbles turned_kept copy

    -- the map of the wrapped keys is a turned copy of the map
    pub wrapped_map : IsTurnedCopy (IsPairClone (λ x y. y ≡ x) is_value_clone) (map_of t) (map_of u)
    wrapped_map =
        let entries = subst (λ es. AreTurned es (fin.entries (map_of (turned_root t)))) (sym (entries-map_of t kept.masked kept.full))
        (subst (AreTurned (entries_of t)) (sym (entries-map_of (turned_root t) turned_kept.masked turned_kept.full)) entries_turned) in
        copy_turned (map_of t) (map_of (turned_root t)) entries (IsPairClone (λ x y. y ≡ x) is_value_clone) (map_of u)
        (copy_map wrapped (IsPairClone (λ x y. y ≡ x) is_value_clone) (λ x y e. ap wrapped e.0) (turned_root t) u count nodes nibbles turned_kept copy)

    -- the map of the wrapped keys has as many points, and its lists as many prefixes
    pub wrapped_footprint : IsSameFootprint (map_of t) (map_of u)
    wrapped_footprint = record {
      nodes = same_counts (IsPoint (map_of t)) (IsPoint (map_of u)) nodes (kept_points enc t count nodes nibbles kept) (kept_points wrapped u count nodes nibbles wrapped_kept);
      nibbles = same_counts (IsSomePrefix (map_of t)) (IsSomePrefix (map_of u)) nibbles (kept_some_prefixes enc t count nodes nibbles kept) (kept_some_prefixes wrapped u count nodes nibbles wrapped_kept);
    }
