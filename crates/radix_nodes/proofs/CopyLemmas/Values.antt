-- Changes of all values, one child after another.
use Rattle.std.proofs.Common.{◌≡◌, ℕ, zero, suc, ◌+◌, ◌-◌, ◌<◌, ◌≤◌, List, [], ◌∷◌, ◌++◌, All, length, get_or, set, take, drop, refl, ap, sym, subst, ◌∙◌, arith}
use Rattle.std.proofs.lemmas.List.{length-append, get_or-append_right, drop_more, drop-set-lt, length-set, take_all, get_or_append_left}
use Rattle.std.proofs.lemmas.Grind.{take-set_at}
use Rattle.std.specs.declared.boxed.Box.{Box}
use Rattle.std.specs.declared.alloc.Global.{Global}
use Rattle.masked_tree.specs.Tree.{entries_at, entries_in}
use Rattle.masked_tree.specs.Same.{IsPairCopy, AreChildCopies, IsCopy}
use Rattle.radix_nodes.specs.Copies.{IsBareCopy}
use Rattle.radix_nodes.specs.Nodes.{tree_of, children_of, out_of, unboxed}
use Rattle.radix_nodes.specs.Pairs.{own_pair, pairs_in, pairs_in_all}
use Rattle.radix_nodes.specs.declared.trie_node.KeyValue.{KeyValue}
use Rattle.radix_nodes.specs.declared.trie_node.TrieNode.{TrieNode}
use Rattle.radix_nodes.proofs.CopyLemmas.Copies.{AreCopied, one_more_is_copied, all_are_copied}
use Rattle.radix_nodes.proofs.NodeLemmas.Nodes.{children-tree_of, pair-tree_of, fragment-tree_of, mask-tree_of}
use Rattle.radix_nodes.proofs.NodeLemmas.Pairs.{pairs_of-append, pairs_of-entries_at}

-- what holds of each element of two lists, one behind the other
module _ {X : Type 0} (P : X → Type 0) (xs ys : List X) (all : All P (xs ++ ys)) where
  -- holds of each of the first
  all_front : All P xs
  all_front k d lt = subst P (get_or_append_left xs ys d k lt) (all k d (omega (arith, lt, length-append xs ys)))

  -- and of each of the second
  all_back : All P ys
  all_back k d lt =
      let past : length xs + k - length xs ≡ k = omega arith in
      subst P (get_or-append_right xs ys (length xs) (length xs + k) d refl (omega arith) ∙ ap (λ n. get_or ys n d) past) (all (length xs + k) d (omega (arith, lt, length-append xs ys)))

module _ {K V : Type 0} (P : K × V → Type 0) where
  -- the pairs at and below a node are its own, and those of its boxes
  own_and_below : (n : TrieNode K V) → pairs_in (tree_of n) ≡ own_pair (unboxed (out_of n).pair) ++ pairs_in_all (children_of (out_of n).children.items)
  own_and_below n =
      pairs_of-entries_at [] (tree_of n)
      ∙ ap (λ o. own_pair o ++ pairs_in_all (tree_of n).children) (pair-tree_of n)
      ∙ ap (λ k. own_pair (unboxed (out_of n).pair) ++ pairs_in_all k) (children-tree_of n)

  -- what holds of each pair at and below a node holds of its own
  pub all_own : (n : TrieNode K V) → All P (pairs_in (tree_of n)) → All P (own_pair (unboxed (out_of n).pair))
  all_own n all = all_front P _ (pairs_in_all (children_of (out_of n).children.items)) (subst (All P) (own_and_below n) all)

  -- what holds of each pair of some boxes holds of each pair of that at i
  at_box : (bs : List (Box (TrieNode K V) Global)) (i : ℕ) (b : Box (TrieNode K V) Global) → i < length bs → get_or bs i b ≡ b
      → All P (pairs_in_all (children_of bs)) → All P (pairs_in (tree_of b.value))
  at_box [] i b lt at all = absurd (omega (arith, lt))
  at_box (c ∷ bs) zero b lt at all =
      subst (λ x. All P (pairs_in (tree_of x.value))) at
      (all_front P (pairs_in (tree_of c.value)) (pairs_in_all (children_of bs)) (subst (All P) (pairs_of-append (entries_at [] (tree_of c.value)) (entries_in [] (children_of bs))) all))
  at_box (c ∷ bs) (suc i) b lt at all =
      at_box bs i b (omega (arith, lt)) at
      (all_back P (pairs_in (tree_of c.value)) (pairs_in_all (children_of bs)) (subst (All P) (pairs_of-append (entries_at [] (tree_of c.value)) (entries_in [] (children_of bs))) all))

  -- what holds of each pair at and below a node holds of each pair at and below its child at i
  pub all_at_child : (n : TrieNode K V) (i : ℕ) (b : Box (TrieNode K V) Global) → i < length (out_of n).children.items → get_or (out_of n).children.items i b ≡ b
      → All P (pairs_in (tree_of n)) → All P (pairs_in (tree_of b.value))
  all_at_child n i b lt at all = at_box (out_of n).children.items i b lt at (all_back P (own_pair (unboxed (out_of n).pair)) _ (subst (All P) (own_and_below n) all))

module _ {K V : Type 0} (R : KeyValue K V → KeyValue K V → Type 0) where
  -- m is n with its pair changed, and of its children those before i; those from i on are as they were
  pub record ChangesBefore (i : ℕ) (n m : TrieNode K V) : Type 0 where
    pub bare : IsBareCopy R (out_of n) (out_of m)
    pub count : length (out_of m).children.items ≡ length (out_of n).children.items
    pub changed : AreCopied R (take i (out_of n).children.items) (take i (out_of m).children.items)
    pub left : drop i (out_of m).children.items ≡ drop i (out_of n).children.items

  -- at first the node's own pair alone is changed
  pub changes_start : (n m : TrieNode K V) → (out_of m).fragment ≡ (out_of n).fragment → (out_of m).mask ≡ (out_of n).mask
      → (out_of m).children.items ≡ (out_of n).children.items → IsPairCopy R (unboxed (out_of n).pair) (unboxed (out_of m).pair) → ChangesBefore 0 n m
  changes_start n m fragment mask items pair = record {
    bare = record { fragment = fragment; mask = mask; pair = pair };
    count = ap length items;
    changed = tt;
    left = items;
  }

  module _ (i : ℕ) (n m : TrieNode K V) (b : Box (TrieNode K V) Global) (before : ChangesBefore i n m) (lt : i < length (out_of m).children.items)
      (at : get_or (out_of m).children.items i b ≡ b) where
    -- the boxes of the node before and now
    abbrev xs : List (Box (TrieNode K V) Global)
    xs = (out_of n).children.items

    abbrev ys : List (Box (TrieNode K V) Global)
    ys = (out_of m).children.items

    -- the place is within the boxes from before
    pub within : i < length xs
    within = omega (arith, lt, before.count)

    -- the boxes from i on are the same, one by one
    from_here : get_or ys i b ∷ drop (i + 1) ys ≡ get_or xs i b ∷ drop (i + 1) xs
    from_here = sym (drop_more ys i b lt) ∙ before.left ∙ drop_more xs i b within

    -- the box at i is that from before
    pub same_box : get_or xs i b ≡ b
    same_box = (let e : get_or ys i b ≡ get_or xs i b = cc from_here in sym e ∙ at)

    -- once the child at i is changed, those before i + 1 are
    pub changes_next : (o : TrieNode K V) (c : Box (TrieNode K V) Global) → (out_of o).fragment ≡ (out_of m).fragment → (out_of o).mask ≡ (out_of m).mask
        → unboxed (out_of o).pair ≡ unboxed (out_of m).pair → (out_of o).children.items ≡ set ys i c → IsCopy R (tree_of b.value) (tree_of c.value) → ChangesBefore (i + 1) n o
    changes_next o c fragment mask pair items copy = record {
      bare = record {
        fragment = fragment ∙ before.bare.fragment;
        mask = mask ∙ before.bare.mask;
        pair = subst (IsPairCopy R (unboxed (out_of n).pair)) (sym pair) before.bare.pair;
      };
      count = ap length items ∙ length-set ys i c ∙ before.count;
      changed = one_more_is_copied R xs (take i ys) (take (i + 1) (out_of o).children.items) i b c within before.changed (sym same_box) copy
          (ap (take (i + 1)) items ∙ take-set_at ys i (i + 1) c refl lt);
      left = ap (drop (i + 1)) items ∙ drop-set-lt (i + 1) ys i c (omega arith) ∙ (let e : drop (i + 1) ys ≡ drop (i + 1) xs = cc from_here in e);
    }

  -- once all children are changed, the whole is
  pub changes_all : (i : ℕ) (n m : TrieNode K V) → length (out_of m).children.items ≤ i → ChangesBefore i n m → IsCopy R (tree_of n) (tree_of m)
  changes_all i n m le before = record {
    fragment = fragment-tree_of m ∙ before.bare.fragment ∙ sym (fragment-tree_of n);
    mask = mask-tree_of m ∙ before.bare.mask ∙ sym (mask-tree_of n);
    pair = subst (λ o. IsPairCopy R o (tree_of m).pair) (sym (pair-tree_of n)) (subst (IsPairCopy R (unboxed (out_of n).pair)) (sym (pair-tree_of m)) before.bare.pair);
    children = subst (AreChildCopies R (tree_of n).children) (ap children_of (take_all i (out_of m).children.items le) ∙ sym (children-tree_of m))
        (all_are_copied R n (take i (out_of m).children.items) i (omega (arith, le, before.count)) before.changed);
  }
