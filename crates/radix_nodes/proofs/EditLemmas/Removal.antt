-- A removal's outcome at a child, and at its node.
use Rattle.std.proofs.Common.{◌≡◌, ◌≢◌, ◌⊎◌, ℕ, zero, suc, ◌+◌, ◌-◌, ◌<◌, List, [], ◌∷◌, ◌++◌, length, get_or, Option, Some, None, IsSome, refl, ap, sym, subst, ◌∙◌, append_assoc, arith, inl, inr, Result, Ok, Err, MatchOption}
use Rattle.std.specs.declared.boxed.Box.{Box}
use Rattle.std.specs.declared.alloc.Global.{Global}
use Rattle.nibble_map.specs.Trees.{AreMany, first}
use Rattle.radix_nodes.specs.declared.trie_node.KeyValue.{KeyValue}
use Rattle.radix_nodes.specs.declared.trie_node.TrieNode.{TrieNode, out-TrieNode, roll-TrieNode}
use Rattle.masked_tree.specs.Tree.{Tree, Children, none, more, plain, join, IsAt, IsTreePlaced, IsTreeFull, firsts, nodes_in, nibbles_in}
use Rattle.masked_tree.specs.Edits.{remove_child, without_pair, without_child, set_child, with_child}
use Rattle.masked_tree.specs.Alters.{none_of, AltersChild, AltersRoot, CutsRoot, Prunes, PrunesRoot}
use Rattle.radix_nodes.specs.Nodes.{unboxed, tree_of, children_of, fragment_of, AreTwo, IsLongWithout, IsLeftWith, HasLongJoin, HasLongJoinBelow, CutOutcome, RootOutcome}
use Rattle.radix_nodes.specs.declared.removal.remove.Removed.{Removed}
use Rattle.radix_nodes.proofs.NodeLemmas.Nodes.{tree_of-written_children, children_of-set, children-tree_of, pair-tree_of, fragment-tree_of}
use Rattle.radix_nodes.proofs.EditLemmas.Insertion.{box_is_child, held_through_child, free_through_child, length-firsts_of_boxes}
use Rattle.masked_tree.proofs.PathLemmas.Paths.{below_from_child}
use Rattle.masked_tree.proofs.TreeLemmas.Children.{set_child-same, child_at_is_unique}
use Rattle.masked_tree.proofs.EditLemmas.Insertion.{child_entry_alters, node_as_child}
use Rattle.std.specs.Vec.{with_item}
use Rattle.radix_keys.specs.declared.nibbles.Memory.{Memory}
use Rattle.masked_tree.proofs.EditLemmas.Removal.{pair_goes, leaf_run, remove_child_full}
use Rattle.radix_nodes.proofs.EditLemmas.Merging.{child_is_in_box}

-- an option that holds something isn't none
some_is_not_none : {A : Type 0} (o : Option A) → IsSome o → o ≢ None
some_is_not_none None s = cc
some_is_not_none (Some a) s = λ e. (let i : Some a ≡ None = e in cc i)

module _ {P : Type 0} where
  -- three children or more are still two or more without the one at i
  many_are_left : (i : ℕ) (k : Children P) → AreMany (plain k) → length (firsts k) ≢ 2 → AreMany (plain (remove_child i k))
  many_are_left i none m l = absurd m
  many_are_left i (more f o a children none) m l = absurd m
  many_are_left i (more f o a children (more g p b ls none)) m l = absurd (l refl)
  many_are_left zero (more f o a children (more g p b ls (more h q c ms others))) m l = tt
  many_are_left (suc zero) (more f o a children (more g p b ls (more h q c ms others))) m l = tt
  many_are_left (suc (suc i)) (more f o a children (more g p b ls (more h q c ms others))) m l = tt

  -- of two children, the one left without the child at i was the child at 1 - i
  pub other_child_at : (i : ℕ) (k : Children P) (u : Tree P) → length (firsts k) ≡ 2 → i < 2 → IsAt 0 (remove_child i k) u → IsAt (1 - i) k u
  other_child_at i none u l lt a = absurd (omega (arith, l))
  other_child_at i (more f o b children none) u l lt a = absurd (omega (arith, l))
  other_child_at zero (more f o b children (more g p c ls none)) u l lt a = a
  other_child_at (suc zero) (more f o b children (more g p c ls none)) u l lt a = a
  other_child_at (suc (suc i)) (more f o b children (more g p c ls none)) u l lt a = absurd (omega (arith, lt))
  other_child_at i (more f o b children (more g p c ls (more h q d ms others))) u l lt a = absurd (omega (arith, l))

  -- of two children one is at i, and the other at 1 - i
  two_children : (i : ℕ) (k : Children P) → length (firsts k) ≡ 2 → i < 2 → (v : Tree P) × (w : Tree P) × IsAt i k v × IsAt (1 - i) k w × AreTwo k v w
  two_children i none l lt = absurd (omega (arith, l))
  two_children i (more f o b children none) l lt = absurd (omega (arith, l))
  two_children zero (more f o b children (more g p c ls none)) l lt =
      (record { fragment = f; pair = o; mask = b; children = children }, record { fragment = g; pair = p; mask = c; children = ls }, refl, refl, inl refl)
  two_children (suc zero) (more f o b children (more g p c ls none)) l lt =
      (record { fragment = g; pair = p; mask = c; children = ls }, record { fragment = f; pair = o; mask = b; children = children }, refl, refl, inr refl)
  two_children (suc (suc i)) (more f o b children (more g p c ls none)) l lt = absurd (omega (arith, lt))
  two_children i (more f o b children (more g p c ls (more h q d ms others))) l lt = absurd (omega (arith, l))

  -- one child is the first
  only_child : (k : Children P) → length (firsts k) ≡ 1 → (w : Tree P) × IsAt 0 k w × (k ≡ join (w ∷ []))
  only_child none l = absurd (omega (arith, l))
  only_child (more f o b children none) l = (record { fragment = f; pair = o; mask = b; children = children }, refl, refl)
  only_child (more f o b children (more g p c ls others)) l = absurd (omega (arith, l))

  -- where a node is long without a leaf, the removal of the leaf's pair is a long join
  pub long_at_leaf : (t : Tree P) (i : ℕ) (u : Tree P) → IsAt i t.children u → u.children ≡ none → IsLongWithout i t → HasLongJoin t (t.fragment ++ u.fragment)
  long_at_leaf t i u at ends long =
      let same : u ≡ long.1 = child_at_is_unique i t.children long.1 u long.3 at in (
        t.fragment,
        t,
        long.2,
        inl (refl, refl),
        (inr (long.0, long.1, ap (λ (v : Tree P). t.fragment ++ v.fragment) same, ap (λ (v : Tree P). v.children) (sym same) ∙ ends, long.4), long.5),
      )

  -- what is left at a node below is left there behind a fragment
  left_behind : (f p x : List ℕ) (u w : Tree P) → IsLeftWith p x u w → IsLeftWith (f ++ p) (f ++ x) u w
  left_behind f p x u w (inl h) = inl (ap (λ y. f ++ y) h.0, h.1)
  left_behind f p x u w (inr h) = inr (h.0, h.1, ap (λ y. f ++ y) h.2 ∙ sym (append_assoc f x h.1.fragment), h.3, h.4)

  -- a long join in a child is one below its parent
  join_below : (t c : Tree P) (i : ℕ) (p : List ℕ) → IsAt i t.children c → HasLongJoin c p → HasLongJoinBelow t (t.fragment ++ p)
  join_below t c i p at j =
      (j.0, j.1, j.2, below_from_child i t.children c j.0 j.1 at j.3, (left_behind t.fragment p j.0 j.1 j.2 j.4.0, j.4.1))

  -- a long join below a tree's own node is one in the tree
  join_within : (t : Tree P) (p : List ℕ) → HasLongJoinBelow t p → HasLongJoin t p
  join_within t p j = (t.fragment ++ j.0, j.1, j.2, inr (j.0, refl, j.3), j.4)

module _ {K V : Type 0} where
  -- a node's tree has as many first nibbles as the node has boxes
  pub length-firsts_of_node : (n : TrieNode K V) → length (firsts (tree_of n).children) ≡ length (out-TrieNode K V n).children.items
  length-firsts_of_node n = ap (λ k. length (firsts k)) (children-tree_of n) ∙ length-firsts_of_boxes _

  -- what was refused is too long to be joined
  -- where a node without a pair has two children, and its fragment and that of the one beside i have over 32 nibbles together, it is long without the child at i
  pub long_without : (n : TrieNode K V) (i : ℕ) → length (out-TrieNode K V n).children.items ≡ 2 → i < 2 → (tree_of n).pair ≡ None →
      ((u : Tree (KeyValue K V)) → IsAt (1 - i) (tree_of n).children u → 32 < length (fragment_of n) + length u.fragment) → IsLongWithout i (tree_of n)
  long_without n i two lt bare h =
      let s = two_children i (tree_of n).children (length-firsts_of_node n ∙ two) lt in
      let e = ap length (fragment-tree_of n) in
      (bare, s.0, s.1, s.2, s.4, omega (arith, h s.1 s.3, e))

  -- where a node with one child loses its pair, and their fragments have over 32 nibbles together, that is a long join
  pub long_here : (n : TrieNode K V) → length (out-TrieNode K V n).children.items ≡ 1 →
      ((u : Tree (KeyValue K V)) → IsAt 0 (tree_of n).children u → 32 < length (fragment_of n) + length u.fragment) → HasLongJoin (tree_of n) (fragment_of n)
  long_here n one h =
      let s = only_child (tree_of n).children (length-firsts_of_node n ∙ one) in
      let e = ap length (fragment-tree_of n) in
      ((tree_of n).fragment, tree_of n, s.0, inl (refl, refl), (inl (sym (fragment-tree_of n), s.2), omega (arith, h s.0 s.1, e)))

  -- a leaf that was cut off, by what was made of it
  module _ (old new : Tree (KeyValue K V)) (s : List ℕ) (leaf : TrieNode K V) (nodes : ℕ) (ends : (tree_of leaf).children ≡ none) (has : unboxed (out-TrieNode K V leaf).pair ≢ None) where
    -- what was made of the leaf: None if it has no pair, else its pair and the counts
    abbrev LeafRemoved : Option (Removed K V) → Type 0
    LeafRemoved r = MatchOption r (unboxed (out-TrieNode K V leaf).pair ≡ None)
        (λ t. (unboxed (out-TrieNode K V leaf).pair ≡ Some t.pair) × (t.nodes ≡ nodes) × (t.nibbles ≡ length (fragment_of leaf)))

    -- a leaf that is pruned below path s is the removal of its pair from its path
    pub leaf_cut : (r : Option (Removed K V)) → LeafRemoved r →
        Prunes s (tree_of leaf) (nodes + nodes_in (tree_of leaf).children) (length (tree_of leaf).fragment + nibbles_in (tree_of leaf).children) old new →
        CutOutcome (Ok r) (s ++ (tree_of leaf).fragment) old new
    leaf_cut None m cut = absurd (has m)
    leaf_cut (Some t) m cut =
        rw (m.1, m.2, ← fragment-tree_of leaf)
        (leaf_run (λ gone n k. AltersChild gone none_of 0 n 0 k old new) s (tree_of leaf) t.pair nodes (pair-tree_of leaf ∙ m.0) ends cut)

    -- a leaf that is pruned from a root below path s is the removal of its pair from its path
    pub leaf_root : (r : Option (Removed K V)) → LeafRemoved r →
        PrunesRoot s (tree_of leaf) (nodes + nodes_in (tree_of leaf).children) (length (tree_of leaf).fragment + nibbles_in (tree_of leaf).children) old new →
        RootOutcome (Ok r) (s ++ (tree_of leaf).fragment) old new
    leaf_root None m cut = absurd (has m)
    leaf_root (Some t) m cut =
        rw (m.1, m.2, ← fragment-tree_of leaf)
        (leaf_run (λ gone n k. AltersRoot gone none_of 0 n 0 k old new) s (tree_of leaf) t.pair nodes (pair-tree_of leaf ∙ m.0) ends cut)

  -- a full node stays full without a child if it has a pair, or not just two boxes
  pub full_without_child : (n : TrieNode K V) (i y : ℕ) → IsSome (unboxed (out-TrieNode K V n).pair) ⊎ (length (out-TrieNode K V n).children.items ≢ 2) → IsTreeFull (tree_of n) → IsTreeFull (without_child i y (tree_of n))
  full_without_child n i y c f = (own c f.0, remove_child_full i (tree_of n).children f.1)
    where
      own : IsSome (unboxed (out-TrieNode K V n).pair) ⊎ (length (out-TrieNode K V n).children.items ≢ 2) → IsSome (tree_of n).pair ⊎ AreMany (plain (tree_of n).children) →
          IsSome (tree_of n).pair ⊎ AreMany (plain (remove_child i (tree_of n).children))
      own (inl s) m = inl (subst (λ o. IsSome o) (sym (pair-tree_of n)) s)
      own (inr l) (inl s) = inl s
      own (inr l) (inr m) = inr (many_are_left i (tree_of n).children m (λ e. l (sym (length-firsts_of_node n) ∙ e)))

  -- the path of the child at i
  -- the child at i has the node's fragment and then the one in its box as its path
  pub append-child_fragment : (n : TrieNode K V) (i : ℕ) (b : Box (TrieNode K V) Global) (u : Tree (KeyValue K V)) → IsTreePlaced (tree_of n) → i < length (out-TrieNode K V n).children.items →
      get_or (out-TrieNode K V n).children.items i b ≡ b → IsAt i (tree_of n).children u → fragment_of n ++ u.fragment ≡ fragment_of n ++ fragment_of b.value
  append-child_fragment n i b u h lt at a = ap (λ (t : Tree (KeyValue K V)). fragment_of n ++ t.fragment) (child_is_in_box n i b u h lt at a) ∙ ap (λ f. fragment_of n ++ f) (fragment-tree_of b.value)

  -- a leaf that is the child at i has a pair if the box at i has
  pub leaf_has_pair : (n leaf : TrieNode K V) (i : ℕ) (b : Box (TrieNode K V) Global) → IsTreePlaced (tree_of n) → i < length (out-TrieNode K V n).children.items → get_or (out-TrieNode K V n).children.items i b ≡ b →
      IsAt i (tree_of n).children (tree_of leaf) → IsSome (unboxed (out-TrieNode K V b.value).pair) → unboxed (out-TrieNode K V leaf).pair ≢ None
  leaf_has_pair n leaf i b h lt at is s e =
      some_is_not_none _ s (sym (pair-tree_of b.value) ∙ ap (λ (t : Tree (KeyValue K V)). t.pair) (sym (child_is_in_box n i b (tree_of leaf) h lt at is)) ∙ pair-tree_of leaf ∙ e)

  -- no boxes are no children
  pub children_of-no_boxes : (bs : List (Box (TrieNode K V) Global)) → length bs ≡ 0 → children_of bs ≡ none
  children_of-no_boxes [] e = refl
  children_of-no_boxes (b ∷ bs) e = absurd (omega (arith, e))

  -- a node without boxes has no children
  pub children-no_boxes : (n : TrieNode K V) → length (out-TrieNode K V n).children.items ≡ 0 → (tree_of n).children ≡ none
  children-no_boxes n e = children-tree_of n ∙ children_of-no_boxes _ e

  -- where the box at i has no boxes of its own, the child at i has no children
  pub leaf_in_box : (n : TrieNode K V) (i : ℕ) (b : Box (TrieNode K V) Global) (u : Tree (KeyValue K V)) → IsTreePlaced (tree_of n) → i < length (out-TrieNode K V n).children.items →
      get_or (out-TrieNode K V n).children.items i b ≡ b → length (out-TrieNode K V b.value).children.items ≡ 0 → IsAt i (tree_of n).children u → u.children ≡ none
  leaf_in_box n i b u h lt at e a = ap (λ (t : Tree (KeyValue K V)). t.children) (child_is_in_box n i b u h lt at a) ∙ children-no_boxes b.value e

  -- a node with another box at i stands for the tree with that box's tree as its child at i
  pub tree_of-with_child : (n : TrieNode K V) (i : ℕ) (b' : Box (TrieNode K V) Global) → let o = out-TrieNode K V n in
      tree_of (roll-TrieNode K V record { fragment = o.fragment; pair = o.pair; mask = o.mask; children = with_item o.children i b' }) ≡ with_child i (tree_of b'.value) (tree_of n)
  tree_of-with_child n i b' = tree_of-written_children n _ ∙ ap (λ k. record { fragment = (tree_of n).fragment; pair = (tree_of n).pair; mask = (tree_of n).mask; children = k })
      (children_of-set (out-TrieNode K V n).children.items i b' ∙ ap (set_child i (tree_of b'.value)) (sym (children-tree_of n)))

  -- a node with another box at i that stands for the same tree stands for the same tree itself
  pub tree_of-same_child : (n : TrieNode K V) (i : ℕ) (b b' : Box (TrieNode K V) Global) → let o = out-TrieNode K V n in
      IsTreePlaced (tree_of n) → i < length o.children.items → get_or o.children.items i b ≡ b → tree_of b'.value ≡ tree_of b.value →
      tree_of (roll-TrieNode K V record { fragment = o.fragment; pair = o.pair; mask = o.mask; children = with_item o.children i b' }) ≡ tree_of n
  tree_of-same_child n i b b' h lt at e =
      tree_of-with_child n i b' ∙ ap (λ t. with_child i t (tree_of n)) e
      ∙ ap (λ k. record { fragment = (tree_of n).fragment; pair = (tree_of n).pair; mask = (tree_of n).mask; children = k }) (set_child-same i (tree_of n).children (tree_of b.value) (box_is_child n i b h lt at))

  -- a long join in the box at i is one below its node
  join_from_box : (n : TrieNode K V) (i : ℕ) (b : Box (TrieNode K V) Global) (p path : List ℕ) → IsTreePlaced (tree_of n) → i < length (out-TrieNode K V n).children.items → get_or (out-TrieNode K V n).children.items i b ≡ b →
      path ≡ fragment_of n ++ p → HasLongJoin (tree_of b.value) p → HasLongJoinBelow (tree_of n) path
  join_from_box n i b p path h lt at ep j =
      subst (HasLongJoinBelow (tree_of n)) (ap (λ f. f ++ p) (fragment-tree_of n) ∙ sym ep) (join_below (tree_of n) (tree_of b.value) i p (box_is_child n i b h lt at) j)

  -- a removal's outcome in the child at i is one in the node that has the child's new box
  pub cut_through_child : (n : TrieNode K V) (i : ℕ) (b b' : Box (TrieNode K V) Global) (r : Result (Option (Removed K V)) Memory) (p path : List ℕ) →
      let o = out-TrieNode K V n in
      IsTreePlaced (tree_of n) → i < length o.children.items → get_or o.children.items i b ≡ b → path ≡ o.fragment ++ p → p ≢ [] → first p ≡ first (fragment_of b.value) → CutOutcome r p (tree_of b.value) (tree_of b'.value) →
      CutOutcome r path (tree_of n) (tree_of (roll-TrieNode K V record { fragment = o.fragment; pair = o.pair; mask = o.mask; children = with_item o.children i b' }))
  cut_through_child n i b b' (Ok (Some t)) p path h lt at ep some start s =
      let e = child_entry_alters (tree_of n) (tree_of b.value) (tree_of b'.value) i p (Some t.pair) None 0 t.nodes 0 t.nibbles h (box_is_child n i b h lt at) s in
      rw (tree_of-with_child n i b', ep, ← fragment-tree_of n) (node_as_child _ _ _ _ _ _ _ _ e)
  cut_through_child n i b b' (Ok None) p path h lt at ep some start s = (tree_of-same_child n i b b' h lt at s.0, free_through_child n i b h p path lt at ep some start s.1)
  cut_through_child n i b b' (Err x) p path h lt at ep some start s = (tree_of-same_child n i b b' h lt at s.0, held_through_child n i b h p path lt at ep s.1, join_within (tree_of n) path (join_from_box n i b p path h lt at ep s.2))

  -- a removal's outcome in a root's child at i is one in the root that has the child's new box
  pub root_cut_through_child : (n : TrieNode K V) (i : ℕ) (b b' : Box (TrieNode K V) Global) (r : Result (Option (Removed K V)) Memory) (p path : List ℕ) →
      let o = out-TrieNode K V n in
      IsTreePlaced (tree_of n) → i < length o.children.items → get_or o.children.items i b ≡ b → path ≡ o.fragment ++ p → p ≢ [] → first p ≡ first (fragment_of b.value) → CutOutcome r p (tree_of b.value) (tree_of b'.value) →
      RootOutcome r path (tree_of n) (tree_of (roll-TrieNode K V record { fragment = o.fragment; pair = o.pair; mask = o.mask; children = with_item o.children i b' }))
  root_cut_through_child n i b b' (Ok (Some t)) p path h lt at ep some start s =
      let e = child_entry_alters (tree_of n) (tree_of b.value) (tree_of b'.value) i p (Some t.pair) None 0 t.nodes 0 t.nibbles h (box_is_child n i b h lt at) s in
      rw (tree_of-with_child n i b', ep, ← fragment-tree_of n) e.root
  root_cut_through_child n i b b' (Ok None) p path h lt at ep some start s = (tree_of-same_child n i b b' h lt at s.0, free_through_child n i b h p path lt at ep some start s.1)
  root_cut_through_child n i b b' (Err x) p path h lt at ep some start s = (tree_of-same_child n i b b' h lt at s.0, held_through_child n i b h p path lt at ep s.1, join_from_box n i b p path h lt at ep s.2)

  -- a pair that goes from a root is cut there, and no node goes
  pub root_pair_cut : (n : TrieNode K V) (x : KeyValue K V) (t' : Tree (KeyValue K V)) (path : List ℕ) → Some x ≡ unboxed (out-TrieNode K V n).pair → IsTreePlaced (tree_of n) → t' ≡ without_pair (tree_of n) →
      path ≡ fragment_of n → CutsRoot path x 0 0 (tree_of n) t'
  root_pair_cut n x t' path leaf_has_pair h et ep = rw (et, ep, ← fragment-tree_of n) (pair_goes (tree_of n) x (pair-tree_of n ∙ sym leaf_has_pair) h)
