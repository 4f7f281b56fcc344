-- The steps of an insertion, at nodes.
use Rattle.std.proofs.Common.{◌≡◌, ◌≢◌, ℕ, suc, ◌+◌, ◌-◌, ◌<◌, ◌≤◌, List, [], ◌∷◌, ◌++◌, length, get_or, take, drop, slice_index, Option, Some, None, refl, ap, sym, subst, ◌∙◌, arith, inl, inr, append-nil, append_assoc, Result, Ok, Err, ne_eqb}
use Rattle.std.proofs.lemmas.List.{length-drop, length-append, take-append-drop}
use Rattle.std.specs.declared.boxed.Box.{Box}
use Rattle.std.specs.declared.alloc.Global.{Global}
use Rattle.std.specs.Vec.{with_item}
use Rattle.nibble_map.specs.Trees.{first}
use Rattle.radix_nodes.specs.declared.trie_node.KeyValue.{KeyValue}
use Rattle.radix_nodes.specs.declared.insertion.change.Change.{Change}
use Rattle.radix_nodes.specs.declared.trie_node.TrieNode.{TrieNode, out-TrieNode, roll-TrieNode}
use Rattle.nibble_map.specs.Lists.{IsPrefix}
use Rattle.masked_tree.specs.Mask.{IsPlaceOf, IsMask, IsRisingFrom, bit_of, rank}
use Rattle.masked_tree.specs.Paths.{IsNodeAt, IsHeld}
use Rattle.nibble_map.proofs.ListLemmas.Cut.{cancel_front, append-some, first-append}
use Rattle.masked_tree.proofs.PathLemmas.Paths.{own_unheld, held_node, held_to_child, held_from_child, stuck_unheld, stuck_gap}
use Rattle.masked_tree.specs.Tree.{Tree, IsAt, firsts, IsTreePlaced, IsTreeFull, nodes_in, nibbles_in}
use Rattle.masked_tree.specs.Edits.{set_child, with_fragment, with_pair, with_child, with_new_child, leaf, lowered}
use Rattle.masked_tree.specs.Alters.{entry_at, all_of, none_of, AltersNode, AltersChild, Replaces, Edits, Grafts, GraftsChild}
use Rattle.radix_nodes.specs.Nodes.{unboxed, tree_of, children_of, fragment_of, EditOutcome, ReplaceOutcome, SetOutcome}
use Rattle.radix_nodes.proofs.NodeLemmas.Nodes.{tree_of-written_pair, tree_of-written_children, box_is_at, children_of-set, children-tree_of, pair-tree_of, mask-tree_of, fragment-tree_of}
use Rattle.masked_tree.proofs.TreeLemmas.Children.{placed_rises, child_tree_is_placed, first-at_rank, set_child-same}
use Rattle.masked_tree.proofs.MaskLemmas.{rank_within, rank_most}
use Rattle.masked_tree.proofs.EditLemmas.Insertion.{pair_edits, child_entry_alters, node_as_child, all_of-with_fragment, all_of-leaf, leaf_is_placed, leaf_is_full, child_comes, split_here, split_beside}
use Rattle.radix_nodes.proofs.EditLemmas.KeyParts.{first-drop, drop_some, take_some}

-- the path of each node begins with the tree's fragment
pub path_has_fragment : {P : Type 0} (t : Tree P) (p : List ℕ) (u : Tree P) → IsNodeAt t p u → IsPrefix t.fragment p
path_has_fragment t p u (inl d) = ([], d.0 ∙ sym (append-nil t.fragment))
path_has_fragment t p u (inr d) = (d.0, d.1)

-- a nibble that another doesn't begin with stands below it or above it
pub place_beside : (x y : ℕ) → x ≢ y → IsPlaceOf y (x ∷ []) (Err (rank y (x ∷ [])))
place_beside x y apart = (rw (ne_eqb x y apart) refl, refl)

-- a branch comes
module _ {P : Type 0} (u : Tree P) (key : List ℕ) (depth y : ℕ) (lt : depth < length key) (ey : y ≡ slice_index key depth) (low : y < 16) (below : IsTreePlaced u) (full : IsTreeFull u) where
  -- what is left of the key
  abbrev rest : List ℕ
  rest = drop depth key

  -- the branch with what is left of the key in front of its fragment
  abbrev pub hung : Tree P
  hung = with_fragment (rest ++ u.fragment) u

  -- it begins with the key's next nibble
  first-hung : first (rest ++ u.fragment) ≡ y
  first-hung = first-append rest u.fragment (drop_some key depth lt) ∙ first-drop key depth ∙ sym ey

  -- its nibbles are those of the branch and what is left of the key
  hung_nibbles : (k : ℕ) → k ≡ length key - depth → k + (length u.fragment + nibbles_in u.children) ≡ length (rest ++ u.fragment) + nibbles_in u.children
  hung_nibbles k ek = let a = length-append rest u.fragment in let b = length-drop depth key in omega (arith, ek, a, b)

  -- a branch that comes as a child, with the rest of the key before its fragment, comes at the key
  pub branch_step : (t t' mid top : Tree P) (f : List ℕ) (i k : ℕ) → f ≡ t.fragment → IsTreePlaced t → IsPlaceOf (slice_index key depth) (firsts t.children) (Err i) →
      top ≡ hung → mid ≡ t → t' ≡ with_new_child i y top mid → k ≡ length key - depth →
      Grafts (f ++ rest) u (1 + nodes_in u.children) (k + (length u.fragment + nibbles_in u.children)) t t'
  branch_step t t' mid top f i k ef h at el em et ek =
      let one : 1 + nodes_in u.children ≡ suc (nodes_in u.children) = omega arith in
      let e = child_comes t hung i h (append-some rest u.fragment (drop_some key depth lt)) (subst (λ n. n < 16) (sym first-hung) low)
      (subst (λ n. IsPlaceOf n (firsts t.children) (Err i)) (sym ey ∙ sym first-hung) at) below full in
      let g = subst (λ come. AltersNode none_of come (suc (nodes_in u.children)) 0 (length (rest ++ u.fragment) + nibbles_in u.children) 0 t (with_new_child i (first (rest ++ u.fragment)) hung t))
      (all_of-with_fragment t.fragment rest u) e in
      rw (ef, et, el, em, one, hung_nibbles k ek, ← first-hung) g

  -- a branch that comes beside a child, below a new node in the child's place, comes at the key
  pub branch_beside_step : (t t' top : Tree P) (whole f g : List ℕ) (n k : ℕ) → whole ≡ t.fragment → f ≡ take n whole → g ≡ drop n whole → 0 < n → n < length whole → first g < 16 →
      IsTreePlaced t → first g ≢ y → top ≡ hung → t' ≡ with_new_child (rank y (first g ∷ [])) y top (lowered f g t) → k ≡ length key - depth →
      GraftsChild (take n whole ++ rest) u (2 + nodes_in u.children) (k + (length u.fragment + nibbles_in u.children)) t t'
  branch_beside_step t t' top whole f g n k ew ef eg p l small h apart el et ek =
      let cut : t.fragment ≡ f ++ g = sym ew ∙ sym (take-append-drop n whole) ∙ (λ i. sym ef i ++ sym eg i) in
      let two : 2 + nodes_in u.children ≡ suc (suc (nodes_in u.children)) = omega arith in
      let i = rank y (first g ∷ []) in
      let e = split_beside t f g cut (λ z. take_some whole n p l (sym ef ∙ z)) (λ z. drop_some whole n l (sym eg ∙ z)) small h hung i
      (append-some rest u.fragment (drop_some key depth lt)) (subst (λ n. n < 16) (sym first-hung) low)
      (subst (λ n. IsPlaceOf n (first g ∷ []) (Err i)) (sym first-hung) (place_beside (first g) y apart)) below full in
      let b = subst (λ come. AltersChild none_of come (suc (suc (nodes_in u.children))) 0 (length (rest ++ u.fragment) + nibbles_in u.children) 0 t (with_new_child i (first (rest ++ u.fragment)) hung (lowered f g t)))
      (all_of-with_fragment f rest u) e in
      rw (et, el, two, hung_nibbles k ek, ← ef) (subst (λ z. AltersChild none_of (all_of (f ++ rest) u) (suc (suc (nodes_in u.children))) 0 (length (rest ++ u.fragment) + nibbles_in u.children) 0 t (with_new_child i z hung (lowered f g t))) first-hung b)

module _ {K V : Type 0} where
  -- a leaf comes
  -- what a leaf with an empty fragment does at p, with no nibble of its own, is what x does there
  leaf_as_entry : (A : (List ℕ → List (List ℕ × KeyValue K V)) → ℕ → Type 0) (p : List ℕ) (x : KeyValue K V) (k : ℕ) → A (all_of p (leaf [] x)) (k + 0) → A (entry_at p (Some x)) k
  leaf_as_entry A p x k a = let e : k + 0 ≡ k = omega arith in subst (λ come. A come k) (all_of-leaf p x) (subst (λ k. A (all_of p (leaf [] x)) k) e a)

  -- a new leaf with the rest of the key, in its place, inserts x by one node and its nibbles
  pub leaf_step : (t t' mid lf : Tree (KeyValue K V)) (f key : List ℕ) (x : KeyValue K V) (was : Option (KeyValue K V)) (depth i y k : ℕ) → f ≡ t.fragment → depth < length key → y ≡ slice_index key depth → y < 16 →
      IsTreePlaced t → IsPlaceOf (slice_index key depth) (firsts t.children) (Err i) → lf ≡ leaf (drop depth key) x → mid ≡ t → t' ≡ with_new_child i y lf mid → was ≡ None → k ≡ length key - depth →
      Edits (f ++ drop depth key) x was 1 k t t'
  leaf_step t t' mid lf f key x was depth i y k ef lt ey low h at el em et ew ek =
      rw ew (leaf_as_entry (λ come k. AltersNode none_of come 1 0 k 0 t t') (f ++ drop depth key) x k
      (branch_step (leaf [] x) key depth y lt ey low (leaf_is_placed [] x) (leaf_is_full [] x) t t' mid lf f i k ef h at (el ∙ ap (λ r. leaf r x) (sym (append-nil (drop depth key)))) em et ek))

  -- the pair goes into the new node
  -- a split where the key ends, with x in the new upper node, inserts x by one node and no nibbles
  pub here_step : (t t' : Tree (KeyValue K V)) (whole f g rest : List ℕ) (n k : ℕ) (x : KeyValue K V) (was : Option (KeyValue K V)) → whole ≡ t.fragment → f ≡ take n whole → g ≡ drop n whole →
      0 < n → n < length whole → first g < 16 → IsTreePlaced t → rest ≡ [] → t' ≡ with_pair x (lowered f g t) → was ≡ None → k ≡ 0 → Replaces (take n whole ++ rest) x was 1 k t t'
  here_step t t' whole f g rest n k x was ew ef eg p l low h er et none ek =
      let cut : t.fragment ≡ f ++ g = sym ew ∙ sym (take-append-drop n whole) ∙ (λ i. sym ef i ++ sym eg i) in
      let e = split_here t f g cut (λ z. take_some whole n p l (sym ef ∙ z)) (λ z. drop_some whole n l (sym eg ∙ z)) low h x in
      rw (er, et, none, ek, append-nil, ← ef) e

  -- the pair goes into a leaf beside
  -- a split where the key parts, x in a new leaf beside, inserts x by two nodes and its nibbles
  pub beside_step : (t t' lf : Tree (KeyValue K V)) (whole f g key : List ℕ) (n depth y k : ℕ) (x : KeyValue K V) (was : Option (KeyValue K V)) → whole ≡ t.fragment → f ≡ take n whole → g ≡ drop n whole →
      0 < n → n < length whole → first g < 16 → IsTreePlaced t → depth < length key → y ≡ slice_index key depth → y < 16 → first g ≢ y →
      lf ≡ leaf (drop depth key) x → t' ≡ with_new_child (rank y (first g ∷ [])) y lf (lowered f g t) → was ≡ None → k ≡ length key - depth → Replaces (take n whole ++ drop depth key) x was 2 k t t'
  beside_step t t' lf whole f g key n depth y k x was ew ef eg p l low h lt ey small apart el et none ek =
      rw none (leaf_as_entry (λ come k. AltersChild none_of come 2 0 k 0 t t') (take n whole ++ drop depth key) x k
      (branch_beside_step (leaf [] x) key depth y lt ey small (leaf_is_placed [] x) (leaf_is_full [] x) t t' lf whole f g n k ew ef eg p l low h apart (el ∙ ap (λ r. leaf r x) (sym (append-nil (drop depth key)))) et ek))

  -- a write of the node's own pair is the insertion at a key that ends there, or its refusal
  pub set_step : (r : Result (Change K V) (KeyValue K V)) (n : TrieNode K V) (at : Option (Box (KeyValue K V) Global)) (x : KeyValue K V) (rest : List ℕ) →
      let o = out-TrieNode K V n in
      rest ≡ [] → IsTreePlaced (tree_of n) → SetOutcome r x o.pair at →
      EditOutcome r x (o.fragment ++ rest) (tree_of n) (tree_of (roll-TrieNode K V record { fragment = o.fragment; pair = at; mask = o.mask; children = o.children }))
  set_step (Ok change) n at x rest end h s =
      let e = pair_edits (tree_of n) x h in
      let new = tree_of-written_pair n at ∙ ap (λ p. record { fragment = (tree_of n).fragment; pair = p; mask = (tree_of n).mask; children = (tree_of n).children }) s.1 in
      rw (new, end, append-nil, ← fragment-tree_of n, s.2, s.3, ← s.0, ← pair-tree_of n) e
  set_step (Err y) n at x rest end h s = (
    s.0,
    tree_of-written_pair n at ∙ ap (λ p. record { fragment = (tree_of n).fragment; pair = unboxed p; mask = (tree_of n).mask; children = (tree_of n).children }) s.1
        ∙ ap (λ p. record { fragment = (tree_of n).fragment; pair = p; mask = (tree_of n).mask; children = (tree_of n).children }) (sym (pair-tree_of n)),
    λ d. own_unheld (tree_of n) h (pair-tree_of n ∙ s.2) (subst (λ p. IsHeld (tree_of n) p) (ap (λ r. (out-TrieNode K V n).fragment ++ r) end ∙ append-nil _ ∙ sym (fragment-tree_of n)) d),
  )

  -- where no child begins with the key's next nibble, no pair stands at the key
  pub gap_free : (n : TrieNode K V) (key : List ℕ) (depth i : ℕ) → IsTreePlaced (tree_of n) → depth < length key → IsPlaceOf (slice_index key depth) (firsts (tree_of n).children) (Err i) →
      IsHeld (tree_of n) (fragment_of n ++ drop depth key) → ⊥
  gap_free n key depth i h lt at d =
      stuck_unheld (tree_of n) (drop depth key) (drop_some key depth lt)
      (stuck_gap (tree_of n) (drop depth key) h (ap (λ y. bit_of y (firsts (tree_of n).children)) (first-drop key depth) ∙ at.0))
      (subst (λ f. IsHeld (tree_of n) (f ++ drop depth key)) (sym (fragment-tree_of n)) d)

  -- nothing is held where a list parts from a fragment
  pub parted_free : (n : TrieNode K V) (key : List ℕ) (depth k : ℕ) → k < length (fragment_of n) →
      (depth < length key → slice_index (fragment_of n) k ≢ slice_index key depth) → IsHeld (tree_of n) (take k (fragment_of n) ++ drop depth key) → ⊥
  parted_free n key depth k lt apart d =
      let f = fragment_of n in
      let r = held_node (tree_of n) _ d in
      let z = path_has_fragment (tree_of n) _ r.0 r.2 in
      let whole : take k f ++ drop depth key ≡ take k f ++ (drop k f ++ z.0) = z.1 ∙ ap (λ g. g ++ z.0) (fragment-tree_of n ∙ sym (take-append-drop k f)) ∙ append_assoc (take k f) (drop k f) z.0 in
      let rest : drop depth key ≡ drop k f ++ z.0 = cancel_front (take k f) (drop depth key) (drop k f ++ z.0) whole in
      let size = ap length rest in
      let a = length-drop depth key in let b = length-drop k f in let c = length-append (drop k f) z.0 in
      apart (omega (arith, size, a, b, c, lt)) (sym (first-drop f k) ∙ sym (first-append (drop k f) z.0 (drop_some f k lt)) ∙ ap first (sym rest) ∙ first-drop key depth)

  -- where a list parts from a fragment, what is left of the fragment begins with another nibble
  pub parted_firsts : (n : TrieNode K V) (tail key : List ℕ) (depth k y : ℕ) → tail ≡ drop k (fragment_of n) → y ≡ slice_index key depth →
      slice_index (fragment_of n) k ≢ slice_index key depth → first tail ≢ y
  parted_firsts n tail key depth k y et ey apart e = apart (sym (first-drop (fragment_of n) k) ∙ ap first (sym et) ∙ e ∙ ey)

  -- an insertion's outcome at a node that may be the root is one at a child
  pub edit_replaces : (r : Result (Change K V) (KeyValue K V)) (x : KeyValue K V) (p : List ℕ) (old new : Tree (KeyValue K V)) → EditOutcome r x p old new → ReplaceOutcome r x p old new
  edit_replaces (Ok change) x p old new e = node_as_child _ _ _ _ _ _ _ _ e
  edit_replaces (Err y) x p old new e = e

  -- a node's child
  module _ (n : TrieNode K V) (i : ℕ) (b : Box (TrieNode K V) Global) (h : IsTreePlaced (tree_of n)) where
    -- the node's boxes
    abbrev items : List (Box (TrieNode K V) Global)
    items = (out-TrieNode K V n).children.items

    -- the tree of the node's box at i is its child at i
    pub box_is_child : i < length items → get_or items i b ≡ b → IsAt i (tree_of n).children (tree_of b.value)
    box_is_child lt at = subst (λ k. IsAt i k (tree_of b.value)) (sym (children-tree_of n)) (box_is_at items i b lt at)

    -- what the child holds, and what it lacks
    -- a pair that the child at i holds at p is held by the node at its fragment and p
    pub held_through_child : (p path : List ℕ) → i < length items → get_or items i b ≡ b → path ≡ fragment_of n ++ p → IsHeld (tree_of b.value) p → IsHeld (tree_of n) path
    held_through_child p path lt at ep d =
        subst (λ q. IsHeld (tree_of n) q) (sym (ep ∙ ap (λ f. f ++ p) (sym (fragment-tree_of n)))) (held_from_child (tree_of n) (tree_of b.value) i h (box_is_child lt at) p d)

    -- where the child that a path leads to lacks a pair at its rest, the node lacks one at the path
    pub free_through_child : (p path : List ℕ) → i < length items → get_or items i b ≡ b → path ≡ fragment_of n ++ p → p ≢ [] → first p ≡ first (fragment_of b.value) →
        (IsHeld (tree_of b.value) p → ⊥) → IsHeld (tree_of n) path → ⊥
    free_through_child p path lt at ep some start free d =
        free (held_to_child (tree_of n) (tree_of b.value) i h (box_is_child lt at) p some (start ∙ ap first (sym (fragment-tree_of b.value)))
        (subst (λ q. IsHeld (tree_of n) q) (ep ∙ ap (λ f. f ++ p) (sym (fragment-tree_of n))) d))

    -- a node that has a new box at i stands for the tree that has the box's tree there
    tree_of-written_box : (b' : Box (TrieNode K V) Global) → let o = out-TrieNode K V n in
        tree_of (roll-TrieNode K V record { fragment = o.fragment; pair = o.pair; mask = o.mask; children = with_item o.children i b' }) ≡ with_child i (tree_of b'.value) (tree_of n)
    tree_of-written_box b' =
        tree_of-written_children n _
        ∙ ap (λ k. record { fragment = (tree_of n).fragment; pair = (tree_of n).pair; mask = (tree_of n).mask; children = k })
        (children_of-set items i b' ∙ ap (set_child i (tree_of b'.value)) (sym (children-tree_of n)))

    -- an insertion's outcome in the child at i is one in the node that has the child's new box
    pub edit_through_child : (r : Result (Change K V) (KeyValue K V)) (b' : Box (TrieNode K V) Global) (x : KeyValue K V) (p path : List ℕ) →
        let o = out-TrieNode K V n in
        i < length items → get_or items i b ≡ b → path ≡ o.fragment ++ p → p ≢ [] → first p ≡ first (fragment_of b.value) → ReplaceOutcome r x p (tree_of b.value) (tree_of b'.value) →
        EditOutcome r x path (tree_of n) (tree_of (roll-TrieNode K V record { fragment = o.fragment; pair = o.pair; mask = o.mask; children = with_item o.children i b' }))
    edit_through_child (Ok change) b' x p path lt at ep some start s =
        let e = child_entry_alters (tree_of n) (tree_of b.value) (tree_of b'.value) i p change.was (Some x) change.nodes 0 change.nibbles 0 h (box_is_child lt at) s in
        rw (tree_of-written_box b', ep, ← fragment-tree_of n) e
    edit_through_child (Err y) b' x p path lt at ep some start s = (
      s.0,
      tree_of-written_children n _ ∙ ap (λ k. record { fragment = (tree_of n).fragment; pair = (tree_of n).pair; mask = (tree_of n).mask; children = k })
          (children_of-set items i b' ∙ ap (λ t. set_child i t (children_of items)) s.1 ∙ ap (λ k. set_child i (tree_of b.value) k) (sym (children-tree_of n)) ∙ set_child-same i (tree_of n).children (tree_of b.value) (box_is_child lt at)),
      free_through_child p path lt at ep some start s.2,
    )

    -- a child's fragment isn't empty, and its own children stand at their places
    pub boxed_child_is_placed : i < length items → get_or items i b ≡ b → (fragment_of b.value ≢ []) × IsTreePlaced (tree_of b.value)
    boxed_child_is_placed lt at =
        let r = child_tree_is_placed 0 i (tree_of n).children (tree_of b.value) (box_is_child lt at) h.1 in
        ((λ e. r.0 (fragment-tree_of b.value ∙ e)), r.1)

    -- the child at the place of the nibble y begins with y
    pub first-fragment_at_place : (y : ℕ) → i < length items → get_or items i b ≡ b → IsPlaceOf y (firsts (tree_of n).children) (Ok i) → first (fragment_of b.value) ≡ y
    first-fragment_at_place y lt at p =
        ap first (sym (fragment-tree_of b.value))
        ∙ first-at_rank 0 y (tree_of n).children (tree_of b.value) (placed_rises 0 _ h.1) p.0 (subst (λ j. IsAt j (tree_of n).children (tree_of b.value)) p.1 (box_is_child lt at))

  -- the children of boxes have as many first nibbles as there are boxes
  pub length-firsts_of_boxes : (bs : List (Box (TrieNode K V) Global)) → length (firsts (children_of bs)) ≡ length bs
  length-firsts_of_boxes [] = refl
  length-firsts_of_boxes (b ∷ bs) = ap suc (length-firsts_of_boxes bs)

  -- the place of a child's nibble is within the boxes
  pub place_is_within : (n : TrieNode K V) (i y : ℕ) → IsTreePlaced (tree_of n) → IsPlaceOf y (firsts (tree_of n).children) (Ok i) → i < length (out-TrieNode K V n).children.items
  place_is_within n i y h p =
      let r = rank_within (firsts (tree_of n).children) 0 y (placed_rises 0 _ h.1) p.0 in
      let e = ap (λ k. length (firsts k)) (children-tree_of n) ∙ length-firsts_of_boxes (out-TrieNode K V n).children.items in
      omega (arith, r, p.1, e)

  -- the place for a new child is at most just behind the boxes
  pub gap_is_within : (n : TrieNode K V) (i y : ℕ) → IsPlaceOf y (firsts (tree_of n).children) (Err i) → i ≤ length (out-TrieNode K V n).children.items
  gap_is_within n i y p =
      let r = rank_most (firsts (tree_of n).children) y in
      let e = ap (λ k. length (firsts k)) (children-tree_of n) ∙ length-firsts_of_boxes (out-TrieNode K V n).children.items in
      omega (arith, r, p.1, e)

  -- what a look at the mask says
  -- a place right for any rising list that the mask names is right for the children's nibbles
  pub place_by_mask : (n : TrieNode K V) (y : ℕ) (r : Result ℕ ℕ) → IsTreePlaced (tree_of n) → ((xs : List ℕ) → IsMask (out-TrieNode K V n).mask xs → IsRisingFrom 0 xs → IsPlaceOf y xs r) →
      IsPlaceOf y (firsts (tree_of n).children) r
  place_by_mask n y r h f = f (firsts (tree_of n).children) (subst (λ m. IsMask m (firsts (tree_of n).children)) (mask-tree_of n) h.0) (placed_rises 0 _ h.1)
