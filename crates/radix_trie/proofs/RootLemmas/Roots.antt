-- What the canonical tree of a map tells: it has no idle node, and a search of it finds the map's value and compares the map's count.
use Rattle.std.proofs.Common.{◌≡◌, ℕ, ◌≤◌, inl, inr, List, [], length, Option, Some, None, IsSome, option_map, MatchOption, refl, ap, sym, subst, ◌∙◌, arith}
use Rattle.std.proofs.lemmas.Simd.{map-map}
use Rattle.std.specs.FinMap as fin
use Rattle.nibble_map.specs.Answers as answers
use Rattle.masked_tree.specs.Tree.{Tree, Children, none, more, plain, IsFullBelow, entries_at}
use Rattle.masked_tree.specs.Paths.{IsNodeAt}
use Rattle.masked_tree.specs.Same.{IsFullRoot}
use Rattle.nibble_map.specs.Lists.{Has}
use Rattle.nibble_map.specs.MapQueries as map_queries
use Rattle.nibble_map.specs.Maps.{PairMap, IsStored, value_at}
use Rattle.nibble_map.specs.Stored as stored
use Rattle.nibble_map.specs.Trees.{AreMany, IsFull}
use Rattle.nibble_map.proofs.MapLemmas.Edits.{stored_by_entries}
use Rattle.nibble_map.proofs.PointLemmas.Moves.{compared_moves}
use Rattle.nibble_map.proofs.TreeLemmas.OneTree.{full_is_canonical}
use Rattle.nibble_map.proofs.ListLemmas.Parted.{prefix_length, prefix_is_whole}
use Rattle.radix_nodes.specs.declared.trie_node.KeyValue.{KeyValue}
use Rattle.radix_nodes.specs.Pairs.{pair_of}
use Rattle.radix_trie.specs.Roots.{shown_children, shown, IsRoot}
use Rattle.radix_trie.proofs.PathLemmas.Parts.{le-cases}
use Rattle.radix_trie.proofs.RootLemmas.Held.{le_either_way, entries-root, pair_of-node, get-no_node}
use Rattle.radix_trie.proofs.RootLemmas.Shown.{row_of}

-- no nibble of a list is compared twice
pub compared_once : (S : List ℕ → Type 0) (e : List ℕ) (n : ℕ) → answers.IsCompared S e n → n ≤ length e
compared_once S e n (p, l, inl h) = let a = prefix_length p e l.above in omega (arith, a, h.1)
compared_once S e n (p, l, inr h) = elim (le_either_way (length e) (length p)) [
  | inl le ↦ absurd (h.0 (prefix_is_whole p e l.above le))
  | inr le ↦ elim (le-cases (length p) (length e) le) [
    | inl same ↦ absurd (h.0 (prefix_is_whole p e l.above (omega (arith, same))))
    | inr less ↦ omega (arith, less, h.2)
  ]
]

module _ {K V : Type 0} where
  -- where a pair is shown, there is a kept one
  some_hidden : (o : Option (KeyValue K V)) → IsSome (option_map pair_of o) → IsSome o
  some_hidden None h = h
  some_hidden (Some x) h = h

  -- children that are two or more as shown are so as kept
  many_hidden : (k : Children (KeyValue K V)) → AreMany (shown_children k) → AreMany (plain k)
  many_hidden none h = h
  many_hidden (more f o m children none) h = h
  many_hidden (more f o m children (more g p n ls others)) h = h

  -- children that are full as shown are so as kept
  full_hidden : (k : Children (KeyValue K V)) → IsFull (shown_children k) → IsFull (plain k)
  full_hidden none h = h
  full_hidden (more f o m children others) h = (elim h.0 [ inl s ↦ inl (some_hidden o s) | inr a ↦ inr (many_hidden children a) ], full_hidden children h.1, full_hidden others h.2)

  -- the value of a kept pair, or none, is the second of the pair shown
  pub value-shown_pair : (o : Option (KeyValue K V)) → option_map (λ p. p.value) o ≡ option_map (λ (p : K × V). p.1) (option_map pair_of o)
  value-shown_pair None = refl
  value-shown_pair (Some x) = refl

module _ {K V : Type 0} (enc : K → List ℕ) (m : PairMap K V) (t : Tree (KeyValue K V)) (root : IsRoot enc m t) where
  -- each node below a kept root has a pair or two children
  pub root_is_full_below : IsFullBelow t
  root_is_full_below = full_hidden t.children ((full_is_canonical (shown t) m root.canonical.pairs root.canonical.placed).1 root.canonical)

  -- what a search for q reads of the node there, or none where none stands, is the map's value at q
  pub found_value : {N : Type 0} (read : N → Tree (KeyValue K V)) (q : List ℕ) (o : Option N) (r : Option V)
      → MatchOption o ((u : Tree (KeyValue K V)) → IsNodeAt t q u → ⊥) (λ n. IsNodeAt t q (read n))
      → MatchOption o (r ≡ None) (λ n. r ≡ option_map (λ p. p.value) (read n).pair) → r ≡ value_at m q
  found_value read q None r apart is = is ∙ sym (ap (option_map (λ p. p.1)) (get-no_node enc m t root q apart))
  found_value read q (Some n) r at is = is ∙ value-shown_pair (read n).pair ∙ ap (option_map (λ p. p.1)) (pair_of-node enc m t root q (read n) at)

  -- a map stores the lists of its root's entries
  pub stored-root_entries : stored.stored (fin.entries m) ≡ stored.stored (entries_at [] t)
  stored-root_entries = ap stored.stored (entries-root enc m t root) ∙ map-map (λ e. e.0) row_of (entries_at [] t)

  -- what counts the compared nibbles by the root's entries counts them by the map
  pub found_count : (q : List ℕ) (n : ℕ) → answers.IsCompared (stored.IsStored (entries_at [] t)) q n → map_queries.IsCompared m q n
  found_count = compared_moves (stored.IsStored (entries_at [] t)) (IsStored m)
      (λ e h. (stored_by_entries m e).0 (subst (λ ks. Has ks e) (sym stored-root_entries) h)) (λ e h. subst (λ ks. Has ks e) stored-root_entries ((stored_by_entries m e).1 h))

  -- a kept root has no fragment, its children are at their places, and no node is idle
  pub root_is_full : IsFullRoot t
  root_is_full = record { top = root.top; placed = root.masked; full = root_is_full_below }
