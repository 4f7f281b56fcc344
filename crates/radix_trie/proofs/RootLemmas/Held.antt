-- What a kept root holds is what its map stores.
use Rattle.std.proofs.Common.{◌≡◌, ℕ, zero, suc, ◌≤◌, ◌⊎◌, inl, inr, List, [], ◌∷◌, map, Option, Some, None, option_map, T, is_some, refl, ap, sym, subst, ◌∙◌, arith}
use Rattle.std.proofs.lemmas.Simd.{map-map}
use Rattle.std.specs.FinMap as fin
use Rattle.masked_tree.specs.Tree.{Tree, entries_at}
use Rattle.masked_tree.specs.Paths.{IsHeld, IsNodeAt}
use Rattle.nibble_map.specs.Lists.{Has}
use Rattle.nibble_map.specs.Maps.{PairMap, IsStored}
use Rattle.nibble_map.specs.Stored as stored
use Rattle.masked_tree.proofs.PathLemmas.Paths.{has_node, node_has, node_is_unique}
use Rattle.nibble_map.proofs.MapLemmas.Edits.{stored_by_entries, has_get}
use Rattle.radix_nodes.specs.declared.trie_node.KeyValue.{KeyValue}
use Rattle.radix_nodes.specs.Pairs.{pair_of}
use Rattle.radix_trie.specs.Roots.{map_of, IsKept, IsRoot}
use Rattle.radix_trie.proofs.RootLemmas.Shown.{row_of, entries_of-root, entries-map_of}

-- of two numbers one is at most the other
pub le_either_way : (m n : ℕ) → (m ≤ n) ⊎ (n ≤ m)
le_either_way zero n = inl (omega arith)
le_either_way (suc m) zero = inr (omega arith)
le_either_way (suc m) (suc n) = elim (le_either_way m n) [ inl h ↦ inl (omega arith) | inr h ↦ inr (omega arith) ]

module _ {K V : Type 0} (enc : K → List ℕ) (t : Tree (KeyValue K V)) (count nodes nibbles : ℕ) (kept : IsKept enc t count nodes nibbles) where
  -- the map of a kept root stores the lists of the root's entries
  lists_same : stored.stored (fin.entries (map_of t)) ≡ stored.stored (entries_at [] t)
  lists_same =
      ap stored.stored (entries-map_of t kept.masked kept.full ∙ entries_of-root t kept.top)
      ∙ map-map (λ e. e.0) row_of (entries_at [] t)

  -- a list that the map of a kept root stores is held by the root
  stored_held : (e : List ℕ) → IsStored (map_of t) e → IsHeld t e
  stored_held e h = subst (λ ks. Has ks e) lists_same ((stored_by_entries (map_of t) e).1 h)

  -- a list that a kept root holds is stored in its map
  pub held_stored : (e : List ℕ) → IsHeld t e → IsStored (map_of t) e
  held_stored e h = (stored_by_entries (map_of t) e).0 (subst (λ ks. Has ks e) (sym lists_same) h)

  -- at a list that a kept root doesn't hold its map has no pair
  pub get-unheld : (e : List ℕ) → (IsHeld t e → ⊥) → fin.get (map_of t) e ≡ None
  get-unheld e apart = go (fin.get (map_of t) e) refl
    where
      go : (o : Option (K × V)) → fin.get (map_of t) e ≡ o → fin.get (map_of t) e ≡ None
      go None i = i
      go (Some x) i = absurd (apart (stored_held e (subst (λ p. T (is_some p)) (sym i) tt)))

  -- where the map has no pair at a list, the kept root doesn't hold that list
  pub none_unheld : (e : List ℕ) → fin.get (map_of t) e ≡ None → IsHeld t e → ⊥
  none_unheld e absent h = subst (λ p. T (is_some p)) absent (held_stored e h)

-- the pair at a node is the map's
module _ {K V : Type 0} (enc : K → List ℕ) (m : PairMap K V) (t : Tree (KeyValue K V)) (root : IsRoot enc m t) where
  -- a map's entries are its root's, each pair read as a key and a value
  pub entries-root : fin.entries m ≡ map row_of (entries_at [] t)
  entries-root = sym root.canonical.pairs ∙ entries_of-root t root.top

  -- the row of an entry is among the rows
  row_has : (es : List (List ℕ × KeyValue K V)) (q : List ℕ) (x : KeyValue K V) → Has es (q, x) → Has (map row_of es) (q, pair_of x)
  row_has [] q x h = absurd h
  row_has (e ∷ es) q x (inl i) = inl (ap row_of i)
  row_has (e ∷ es) q x (inr h) = inr (row_has es q x h)

  -- each of the rows is the row of some entry at the same list
  has_row : (es : List (List ℕ × KeyValue K V)) (q : List ℕ) (p : K × V) → Has (map row_of es) (q, p) → (x : KeyValue K V) × Has es (q, x) × (p ≡ pair_of x)
  has_row [] q p h = absurd h
  has_row (e ∷ es) q p (inl i) = (e.1, inl (ap (λ z. (z.0, e.1)) i), ap (λ z. z.1) i)
  has_row (e ∷ es) q p (inr h) = let r = has_row es q p h in (r.0, inr r.1, r.2)

  -- where the map has a pair at q, a node with that pair stands at q
  got_node : (q : List ℕ) (p : K × V) → fin.get m q ≡ Some p → (u : Tree (KeyValue K V)) × (x : KeyValue K V) × IsNodeAt t q u × (u.pair ≡ Some x) × (p ≡ pair_of x)
  got_node q p e =
      let r = has_row (entries_at [] t) q p (subst (λ es. Has es (q, p)) entries-root ((has_get m q p).1 e)) in
      let n = has_node t q r.0 r.1 in
      (n.0, r.0, n.1, n.2, r.2)

  -- the pair of the node at a path is what the map has there, a pair or none
  pub pair_of-node : (q : List ℕ) (u : Tree (KeyValue K V)) → IsNodeAt t q u → option_map pair_of u.pair ≡ fin.get m q
  pair_of-node q u i = by u.pair refl (fin.get m q) refl
    where
      by : (o : Option (KeyValue K V)) → u.pair ≡ o → (r : Option (K × V)) → fin.get m q ≡ r → option_map pair_of u.pair ≡ fin.get m q
      by (Some x) e r f = ap (option_map pair_of) e ∙ sym ((has_get m q (pair_of x)).0 (subst (λ es. Has es (q, pair_of x)) (sym entries-root) (row_has (entries_at [] t) q x (node_has t q u x i e))))
      by None e None f = ap (option_map pair_of) e ∙ sym f
      by None e (Some p) f =
          let n = got_node q p f in
          let clash : None ≡ Some n.1 = sym e ∙ ap (λ (v : Tree (KeyValue K V)). v.pair) (node_is_unique t q u n.0 root.masked i n.2) ∙ n.3 in
          cc

  -- where no node stands at a path, the map has no pair there
  pub get-no_node : (q : List ℕ) → ((u : Tree (KeyValue K V)) → IsNodeAt t q u → ⊥) → fin.get m q ≡ None
  get-no_node q apart = by (fin.get m q) refl
    where
      by : (r : Option (K × V)) → fin.get m q ≡ r → fin.get m q ≡ None
      by None f = f
      by (Some p) f = let n = got_node q p f in absurd (apart n.0 n.2)
