-- Copies of children, one by one.
use Rattle.std.proofs.Common.{◌≡◌, ℕ, ◌+◌, ◌<◌, ◌≤◌, List, [], ◌∷◌, ◌++◌, Vec, length, get_or, take, None, Result, Ok, Err, refl, ap, sym, subst, ◌∙◌}
use Rattle.std.proofs.lemmas.List.{take_more, take_all}
use Rattle.std.specs.Result.{IsOk, OnOk}
use Rattle.std.specs.declared.boxed.Box.{Box}
use Rattle.std.specs.declared.alloc.Global.{Global}
use Rattle.masked_tree.specs.Tree.{Tree, Children, none, more, front}
use Rattle.masked_tree.specs.Same.{IsPairCopy, AreChildCopies, IsCopy}
use Rattle.masked_tree.specs.Turned.{append}
use Rattle.nibble_map.proofs.MapLemmas.SameTests.{anything_of_false}
use Rattle.radix_nodes.specs.declared.trie_node.KeyValue.{KeyValue}
use Rattle.radix_nodes.specs.declared.trie_node.TrieNode.{TrieNode, roll-TrieNode}
use Rattle.radix_nodes.specs.Copies.{IsBareCopy}
use Rattle.radix_nodes.specs.Nodes.{tree_of, children_of, out_of, unboxed}
use Rattle.radix_nodes.proofs.NodeLemmas.Nodes.{tree_of-roll, children-tree_of, pair-tree_of, fragment-tree_of, mask-tree_of}

-- what holds where a call succeeds holds once it did
pub done : {T E P : Type 0} (r : Result T E) → IsOk r → OnOk r P → P
done (Ok x) ok p = p
done (Err e) ok p = anything_of_false ok

module _ {K V : Type 0} (n : TrieNode K V) where
  -- a node without children or without a pair, as its fields say it
  -- a node whose tree has no children has no boxes
  pub length-no_children : (tree_of n).children ≡ none → length (out_of n).children.items ≡ 0
  length-no_children e = by (out_of n).children.items (sym (children-tree_of n) ∙ e)
    where
      by : (bs : List (Box (TrieNode K V) Global)) → children_of bs ≡ none → length bs ≡ 0
      by [] e = refl
      by (b ∷ bs) e = absurd (let i : children_of (b ∷ bs) ≡ none = e in cc i)

  -- a node whose tree has no pair has none in its box
  pub unboxed-no_pair : (tree_of n).pair ≡ None → unboxed (out_of n).pair ≡ None
  unboxed-no_pair e = sym (pair-tree_of n) ∙ e

-- the children of one box more
-- the children of boxes and one more behind them: theirs, and then that box's tree
pub children_of-append : {K V : Type 0} (xs : List (Box (TrieNode K V) Global)) (x : Box (TrieNode K V) Global) → children_of (xs ++ x ∷ []) ≡ append (children_of xs) (front (tree_of x.value) none)
children_of-append [] x = refl
children_of-append (b ∷ xs) x = ap (front (tree_of b.value)) (children_of-append xs x)

module _ {K L V : Type 0} (R : KeyValue K V → KeyValue L V → Type 0) where
  -- the boxes of a node's children
  abbrev Boxes : Type 0 → Type 0
  Boxes K = List (Box (TrieNode K V) Global)

  -- the boxes' trees are copies
  abbrev pub AreCopied : Boxes K → Boxes L → Type 0
  AreCopied xs ys = AreChildCopies R (children_of xs) (children_of ys)

  -- one more copy behind the others
  -- copies of some children and a copy of a tree are copies of the children and that tree
  pub copies_append : (k : Children (KeyValue K V)) (ys : Boxes L) (t : Tree (KeyValue K V)) (y : Box (TrieNode L V) Global) → AreChildCopies R k (children_of ys) → IsCopy R t (tree_of y.value) →
      AreChildCopies R (append k (front t none)) (children_of (ys ++ y ∷ []))
  copies_append none [] t y h c = (c.fragment, c.mask, c.pair, c.children, tt)
  copies_append none (b ∷ ys) t y h c = absurd h
  copies_append (more f o m children others) [] t y h c = absurd h
  copies_append (more f o m children others) (b ∷ ys) t y h c = (h.0, h.1, h.2, h.3, copies_append others ys t y h.4 c)

  -- once a copy of the child at i is put behind the copies, the first i + 1 are copied
  pub one_more_is_copied : (xs : Boxes K) (old new : Boxes L) (i : ℕ) (x : Box (TrieNode K V) Global) (y : Box (TrieNode L V) Global) → i < length xs → AreCopied (take i xs) old →
      x ≡ get_or xs i x → IsCopy R (tree_of x.value) (tree_of y.value) → new ≡ old ++ y ∷ [] → AreCopied (take (i + 1) xs) new
  one_more_is_copied xs old new i x y lt h ex copy pushed =
      subst (AreCopied (take (i + 1) xs)) (sym pushed)
      (subst (λ k. AreChildCopies R k (children_of (old ++ y ∷ []))) (sym (ap children_of (take_more xs i x lt) ∙ children_of-append (take i xs) _))
      (copies_append (children_of (take i xs)) old _ y h (subst (λ z. IsCopy R (tree_of z.value) (tree_of y.value)) ex copy)))

  -- an empty list of boxes has copies of the first 0 children
  pub none_copied : (xs : Boxes K) (new : Boxes L) → new ≡ [] → AreCopied (take 0 xs) new
  none_copied xs new e = subst (AreCopied (take 0 xs)) (sym e) tt

  -- once each box has its copy, the children are copied
  pub all_are_copied : (n : TrieNode K V) (ys : Boxes L) (i : ℕ) → length (out_of n).children.items ≤ i → AreCopied (take i (out_of n).children.items) ys → AreChildCopies R (tree_of n).children (children_of ys)
  all_are_copied n ys i le h =
      subst (λ k. AreChildCopies R k (children_of ys)) (sym (children-tree_of n)) (subst (λ zs. AreCopied zs ys) (take_all i (out_of n).children.items le) h)

  -- a copy without children, with copies of the children linked to it, is a copy
  pub bare_copied : (n : TrieNode K V) (m : TrieNode L V) (ys : Vec (Box (TrieNode L V) Global) Global) → IsBareCopy R (out_of n) (out_of m) → AreChildCopies R (tree_of n).children (children_of ys.items) →
      IsCopy R (tree_of n) (tree_of (roll-TrieNode L V record { fragment = (out_of m).fragment; pair = (out_of m).pair; mask = (out_of m).mask; children = ys }))
  bare_copied n m ys bare below =
      subst (IsCopy R (tree_of n)) (sym (tree_of-roll _)) (record {
        fragment = bare.fragment ∙ sym (fragment-tree_of n);
        mask = bare.mask ∙ sym (mask-tree_of n);
        pair = subst (λ p. IsPairCopy R p (unboxed (out_of m).pair)) (sym (pair-tree_of n)) bare.pair;
        children = below;
      })
