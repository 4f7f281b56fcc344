-- What an insertion at the root does, once it is carried out.
use Rattle.std.proofs.Common.{◌≡◌, ◌⊎◌, inl, inr, Bool, true, false, ℕ, zero, suc, ◌+◌, ◌-◌, ◌≤◌, ◌<◌, ◌^◌, List, ◌++◌, length, Option, Some, None, option_map, refl, ap, sym, subst, ◌∙◌, arith, drop}
use Rattle.std.specs.FinMap as fin
use Rattle.masked_tree.specs.Alters.{entry_at, AltersRoot, Edits}
use Rattle.masked_tree.specs.Tree.{Tree}
use Rattle.nibble_map.specs.Maps.{PairMap, value_at}
use Rattle.nibble_map.specs.Swaps.{entry}
use Rattle.radix_nodes.specs.declared.trie_node.KeyValue.{KeyValue}
use Rattle.radix_nodes.specs.declared.trie_node.TrieNode.{TrieNode}
use Rattle.radix_nodes.specs.Nodes.{tree_of, fragment_of}
use Rattle.radix_nodes.specs.Pairs.{pair_of}
use Rattle.radix_trie.specs.Roots.{map_of, IsKept}
use Rattle.radix_trie.proofs.RootLemmas.Shown.{len-map_of_kept}
use Rattle.radix_trie.proofs.ChangeLemmas.Changes.{kept_after, map_of-edit, get-before_edit, nodes_fit, nibbles_within, inserted_at}

-- of two numbers the first is at most the second, or greater
either_le : (m n : ℕ) → (m ≤ n) ⊎ (n < m)
either_le zero n = inl (omega arith)
either_le (suc m) zero = inr (omega arith)
either_le (suc m) (suc n) = elim (either_le m n) [ inl h ↦ inl (omega arith) | inr h ↦ inr (omega arith) ]

-- an absent list can be counted, where it is false that it is absent and all counts are in use
room_for : (full absent : Type 0) (b : Bool) (count : ℕ) → b ≡ false → (full × absent → b ≡ true) → (count ≡ 2 ^ 64 - 1 → full) → count < 2 ^ 64 → absent
    → count + 1 < 2 ^ 64
room_for full absent b count off on is small here = elim (either_le (count + 1) (2 ^ 64 - 1)) [
  | inl le ↦ omega arith
  | inr lt ↦ (let clash : false ≡ true = sym off ∙ on (is (omega arith), here) in cc)
]

-- what an insertion at the root does, once it is carried out
module _ {K V : Type 0} (enc : K → List ℕ) (root : TrieNode K V) (new : Tree (KeyValue K V)) (count nodes nibbles : ℕ) (list q : List ℕ) (x : KeyValue K V)
    (was : Option (KeyValue K V)) (n k : ℕ) (kept : IsKept enc (tree_of root) count nodes nibbles) (is : list ≡ q)
    (edit : Edits (fragment_of root ++ drop 0 list) x was n k (tree_of root) new) where
  -- the insertion is a change at q
  insert_at : AltersRoot (entry_at q was) (entry_at q (Some x)) n 0 k 0 (tree_of root) new
  insert_at = inserted_at root new list q x was n k kept.top is edit

  -- the value that was replaced, or none, is the old map's at the list
  pub value_at-insert : value_at (map_of (tree_of root)) q ≡ option_map (λ y. y.value) was
  value_at-insert = ap (option_map (λ p. p.1)) (get-before_edit enc (tree_of root) new count nodes nibbles q x was n k kept insert_at) ∙ twice was
    where
      twice : (o : Option (KeyValue K V)) → option_map (λ (p : K × V). p.1) (option_map pair_of o) ≡ option_map (λ (y : KeyValue K V). y.value) o
      twice None = refl
      twice (Some y) = refl

  -- after the insertion the map is the old one with the pair inserted
  pub map_of-insert : map_of new ≡ fin.insert (map_of (tree_of root)) q (pair_of x)
  map_of-insert = map_of-edit enc (tree_of root) new count nodes nibbles q x was n k kept insert_at

  -- after the insertion the root is kept, with the count of pairs that adds up
  kept_with_count : (m : ℕ) → q ≡ enc x.key → length q < 2 ^ 64 → m + length (entry q (option_map pair_of was)) ≡ count + 1 → IsKept enc new m (nodes + n) (nibbles + k)
  kept_with_count m keyed fits counted =
      kept_after enc (tree_of root) new count nodes nibbles q was (Some x) n 0 k 0 kept insert_at m (keyed, fits, tt) counted
      (nodes + n) (nibbles + k) (omega arith) (omega arith)

  -- where a pair was replaced, the root is kept with the same count of pairs
  pub over_kept : (y : KeyValue K V) → was ≡ Some y → q ≡ enc x.key → length q < 2 ^ 64 → IsKept enc new count (nodes + n) (nibbles + k)
  over_kept y w keyed fits = kept_with_count count keyed fits (ap (λ o. count + length (entry q (option_map pair_of o))) w)

  -- where no pair was replaced, the root is kept with one pair more
  pub added_kept : was ≡ None → q ≡ enc x.key → length q < 2 ^ 64 → IsKept enc new (count + 1) (nodes + n) (nibbles + k)
  added_kept w keyed fits = let same = ap (λ o. count + 1 + length (entry q (option_map pair_of o))) w in kept_with_count (count + 1) keyed fits (omega (arith, same))

  -- where there is room for a pair more, unless one is replaced
  some_count : (o : Option (KeyValue K V)) → was ≡ o → q ≡ enc x.key → length q < 2 ^ 64 → count < 2 ^ 64 → (was ≡ None → count + 1 < 2 ^ 64)
      → (m : ℕ) × (m < 2 ^ 64) × IsKept enc new m (nodes + n) (nibbles + k)
  some_count None w keyed fits small room = (count + 1, room w, added_kept w keyed fits)
  some_count (Some y) w keyed fits small room = (count, small, over_kept y w keyed fits)

  -- the nodes after the insertion are fewer than 2 ^ 128
  inserted_nodes_fit : q ≡ enc x.key → length q < 2 ^ 64 → count < 2 ^ 64 → (was ≡ None → count + 1 < 2 ^ 64) → nodes + n < 2 ^ 128
  inserted_nodes_fit keyed fits small room =
      let r = some_count was refl keyed fits small room in
      let most = r.1 in
      let few = nodes_fit enc new r.0 (nodes + n) (nibbles + k) r.2 in
      omega arith

  -- the nibbles after the insertion are fewer than 2 ^ 128
  inserted_nibbles_fit : q ≡ enc x.key → length q < 2 ^ 64 → count < 2 ^ 64 → (was ≡ None → count + 1 < 2 ^ 64) → nibbles + k < 2 ^ 128
  inserted_nibbles_fit keyed fits small room =
      let r = some_count was refl keyed fits small room in
      nibbles_within enc new r.0 (nodes + n) (nibbles + k) r.2 r.1

  -- what stood at the list tells whether one stood there
  inserted_absent : was ≡ None → fin.get (map_of (tree_of root)) q ≡ None
  inserted_absent w = get-before_edit enc (tree_of root) new count nodes nibbles q x was n k kept insert_at ∙ ap (option_map pair_of) w

  -- where not all counts of pairs are in use, or the list is stored, the counts after it fit
  pub inserted_fits : q ≡ enc x.key → length list < 2 ^ 64 → count < 2 ^ 64 → (m : PairMap K V) → map_of (tree_of root) ≡ m
      → (full : Bool) → full ≡ false → ((fin.len m ≡ 2 ^ 64 - 1) × (fin.get m list ≡ None) → full ≡ true)
      → (nodes + n < 2 ^ 128) × (nibbles + k < 2 ^ 128) × (was ≡ None → count + 1 < 2 ^ 64)
  inserted_fits keyed fits small m view full off on = (inserted_nodes_fit keyed short small room, inserted_nibbles_fit keyed short small room, room)
    where
      short : length q < 2 ^ 64
      short = subst (λ (l : List ℕ). length l < 2 ^ 64) is fits

      absent : was ≡ None → fin.get m list ≡ None
      absent w = ap (fin.get m) is ∙ ap (λ o. fin.get o q) (sym view) ∙ inserted_absent w

      room : was ≡ None → count + 1 < 2 ^ 64
      room w =
          room_for (fin.len m ≡ 2 ^ 64 - 1) (fin.get m list ≡ None) full count off on
          (λ e. ap fin.len (sym view) ∙ len-map_of_kept enc (tree_of root) count nodes nibbles kept ∙ e) small (absent w)
