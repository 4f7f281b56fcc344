-- Children with their first nibbles turned over, one by one.
use Rattle.std.proofs.Common.{◌≡◌, ℕ, ◌+◌, ◌<◌, ◌≤◌, Bool, true, false, cond, List, [], ◌∷◌, ◌++◌, length, get_or, take, refl, ap, sym, subst, ◌∙◌}
use Rattle.std.proofs.lemmas.List.{take_more, take_all}
use Rattle.std.specs.Int.{rotate_left, w16}
use Rattle.std.specs.declared.boxed.Box.{Box}
use Rattle.std.specs.declared.alloc.Global.{Global}
use Rattle.masked_tree.specs.Tree.{Tree, Children, none, more, front}
use Rattle.masked_tree.specs.Same.{IsPairCopy, AreChildCopies, IsCopy}
use Rattle.nibble_map.specs.Trees.{first}
use Rattle.nibble_map.specs.Turned.{turned}
use Rattle.masked_tree.specs.Turned.{in_half, turned_tree, turned_half, turned_children, turned_root, append}
use Rattle.radix_nodes.specs.declared.trie_node.KeyValue.{KeyValue}
use Rattle.radix_nodes.specs.declared.trie_node.TrieNode.{TrieNode, roll-TrieNode}
use Rattle.radix_nodes.specs.declared.trie_node.TrieNode.TheOpen.{TrieNode-F}
use Rattle.radix_nodes.specs.Nodes.{tree_of, children_of, out_of, fragment_of, unboxed}
use Rattle.radix_nodes.proofs.CopyLemmas.Copies.{children_of-append, copies_append}
use Rattle.radix_nodes.proofs.NodeLemmas.Nodes.{tree_of-out, tree_of-roll, fragment-tree_of, mask-tree_of, pair-tree_of, children-tree_of}

module _ {P : Type 0} where
  -- no children put behind some change nothing
  append-none : (k : Children P) → append k none ≡ k
  append-none none = refl
  append-none (more f o m children others) = ap (more f o m children) (append-none others)

  -- of three lists of children joined, the first two or the last two may be joined first
  append-append : (k l j : Children P) → append (append k l) j ≡ append k (append l j)
  append-append none l j = refl
  append-append (more f o m children others) l j = ap (more f o m children) (append-append others l j)

  -- the half of two joined lists of children: the half of each, joined
  half-append : (high : Bool) (k l : Children P) → turned_half high (append k l) ≡ append (turned_half high k) (turned_half high l)
  half-append high none l = refl
  half-append high (more f o m children others) l = by (in_half high (first f)) (half-append high others l)
    where
      by : (b : Bool) → turned_half high (append others l) ≡ append (turned_half high others) (turned_half high l) →
          cond b (more (turned f) o m children (turned_half high (append others l))) (turned_half high (append others l))
          ≡ append (cond b (more (turned f) o m children (turned_half high others)) (turned_half high others)) (turned_half high l)
      by true e = ap (more (turned f) o m children) e
      by false e = e

-- the children of a half, with one more looked at
module _ {K V : Type 0} (high : Bool) (xs : List (Box (TrieNode K V) Global)) (i : ℕ) (x : Box (TrieNode K V) Global) (within : i < length xs) (at : x ≡ get_or xs i x) where
  -- the half of the first i + 1 children: of the first i, and then of the one at i
  next : turned_half high (children_of (take (i + 1) xs)) ≡ append (turned_half high (children_of (take i xs))) (turned_half high (front (tree_of x.value) none))
  next = ap (λ bs. turned_half high (children_of bs)) (take_more xs i x within) ∙ ap (turned_half high) (children_of-append (take i xs) (get_or xs i x))
      ∙ half-append high (children_of (take i xs)) _ ∙ ap (λ b. append (turned_half high (children_of (take i xs))) (turned_half high (front (tree_of b.value) none))) (sym at)

  -- the first nibble of the child at i, by its field
  start : first (tree_of x.value).fragment ≡ first (fragment_of x.value)
  start = ap first (fragment-tree_of x.value)

  module _ {L : Type 0} (R : KeyValue K V → KeyValue L V → Type 0) (k : Children (KeyValue K V)) (old : List (Box (TrieNode L V) Global))
      (copied : AreChildCopies R (append k (turned_half high (children_of (take i xs)))) (children_of old)) where
    -- with a turned copy of the child at i, which is in the half, the half of i + 1 is copied
    pub half_with_child : (new : List (Box (TrieNode L V) Global)) (y : Box (TrieNode L V) Global) → in_half high (first (fragment_of x.value)) ≡ true →
        IsCopy R (turned_tree (tree_of x.value)) (tree_of y.value) → new ≡ old ++ y ∷ [] → AreChildCopies R (append k (turned_half high (children_of (take (i + 1) xs)))) (children_of new)
    half_with_child new y is c e =
        let half = next ∙ ap (λ b. append (turned_half high (children_of (take i xs))) (cond b (front (turned_tree (tree_of x.value)) none) none)) (ap (in_half high) start ∙ is) in
        subst (λ l. AreChildCopies R (append k l) (children_of new)) (sym half)
        (subst (λ l. AreChildCopies R l (children_of new)) (append-append k _ _)
        (subst (λ zs. AreChildCopies R (append (append k (turned_half high (children_of (take i xs)))) (front (turned_tree (tree_of x.value)) none)) (children_of zs)) (sym e)
        (copies_append R _ old (turned_tree (tree_of x.value)) y copied c)))

    -- where the child at i isn't in the half, the copies of the half of i are those of i + 1
    pub half_without_child : (new : List (Box (TrieNode L V) Global)) → in_half high (first (fragment_of x.value)) ≡ false → new ≡ old →
        AreChildCopies R (append k (turned_half high (children_of (take (i + 1) xs)))) (children_of new)
    half_without_child new is e =
        let half = next ∙ ap (λ b. append (turned_half high (children_of (take i xs))) (cond b (front (turned_tree (tree_of x.value)) none) none)) (ap (in_half high) start ∙ is) ∙ append-none _ in
        subst (λ l. AreChildCopies R (append k l) (children_of new)) (sym half)
        (subst (λ zs. AreChildCopies R (append k (turned_half high (children_of (take i xs)))) (children_of zs)) (sym e) copied)

module _ {K L V : Type 0} (R : KeyValue K V → KeyValue L V → Type 0) where
  -- a copy's fragment is the node's
  pub fragment_of-copy : (child : TrieNode K V) (copy : TrieNode L V) → IsCopy R (tree_of child) (tree_of copy) → fragment_of copy ≡ fragment_of child
  fragment_of-copy child copy c = sym (fragment-tree_of copy) ∙ c.fragment ∙ fragment-tree_of child

  -- a copy gets another fragment
  -- a child's copy that is given the turned fragment is a copy of the turned child
  pub child_turned : (child : TrieNode K V) (copy : TrieNode L V) (f : List ℕ) → f ≡ turned (fragment_of copy) → IsCopy R (tree_of child) (tree_of copy) →
      IsCopy R (turned_tree (tree_of child)) (tree_of (roll-TrieNode L V record { fragment = f; pair = (out_of copy).pair; mask = (out_of copy).mask; children = (out_of copy).children }))
  child_turned child copy f e c =
      let is = tree_of-roll _ ∙ ap (λ (t : Tree (KeyValue L V)). record { fragment = f; pair = t.pair; mask = t.mask; children = t.children }) (sym (tree_of-out copy)) in
      subst (IsCopy R (turned_tree (tree_of child))) (sym is)
      (record { fragment = e ∙ ap turned (sym (fragment-tree_of copy) ∙ c.fragment); mask = c.mask; pair = c.pair; children = c.children })

  -- an empty list of boxes is a copy of no children
  pub nothing_copied : (new : List (Box (TrieNode L V) Global)) → new ≡ [] → AreChildCopies R none (children_of new)
  nothing_copied new e = subst (λ zs. AreChildCopies R none (children_of zs)) (sym e) tt

  -- copies of some children are copies of them with none behind
  pub none_pushed : (k : Children (KeyValue K V)) (l : Children (KeyValue L V)) → AreChildCopies R k l → AreChildCopies R (append k none) l
  none_pushed k l h = subst (λ k. AreChildCopies R k l) (sym (append-none k)) h

  -- once all boxes are seen, the copies of their half are those of the half of all children
  pub all_pushed : (n : TrieNode K V) (high : Bool) (i : ℕ) (k : Children (KeyValue K V)) (l : Children (KeyValue L V)) → length (out_of n).children.items ≤ i →
      AreChildCopies R (append k (turned_half high (children_of (take i (out_of n).children.items)))) l → AreChildCopies R (append k (turned_half high (tree_of n).children)) l
  all_pushed n high i k l le h =
      subst (λ j. AreChildCopies R (append k (turned_half high j)) l) (ap children_of (take_all i (out_of n).children.items le) ∙ sym (children-tree_of n)) h

  -- the copy of a root
  -- a node of the copied fields with a turned mask and turned children is a turned root's copy
  pub turned_root_is_copied : (n : TrieNode K V) (x : TrieNode-F L V (TrieNode L V)) → x.fragment ≡ (out_of n).fragment → x.mask ≡ rotate_left w16 (out_of n).mask 8 →
      IsPairCopy R (unboxed (out_of n).pair) (unboxed x.pair) → AreChildCopies R (turned_children (tree_of n).children) (children_of x.children.items) →
      IsCopy R (turned_root (tree_of n)) (tree_of (roll-TrieNode L V x))
  turned_root_is_copied n x ef em ep ek = subst (IsCopy R (turned_root (tree_of n))) (sym (tree_of-roll x)) (record {
    fragment = ef ∙ sym (fragment-tree_of n);
    mask = em ∙ ap (λ m. rotate_left w16 m 8) (sym (mask-tree_of n));
    pair = subst (λ o. IsPairCopy R o (unboxed x.pair)) (sym (pair-tree_of n)) ep;
    children = ek;
  })
