-- A branch whose values are changed, seen from the nodes above it.
use Rattle.std.proofs.Common.{◌≡◌, ℕ, ◌+◌, ◌<◌, inl, inr, List, [], ◌++◌, All, length, get_or, drop, ap, subst, ◌∙◌, arith, append-nil}
use Rattle.std.specs.Fn.{Shared}
use Rattle.std.specs.Vec.{with_item}
use Rattle.std.specs.declared.boxed.Box.{Box}
use Rattle.std.specs.declared.alloc.Global.{Global}
use denote.Ref.{Bor, MutBor}
use Rattle.masked_tree.specs.Alters.{AltersNode, all_of}
use Rattle.masked_tree.specs.Edits.{with_child}
use Rattle.masked_tree.specs.Same.{IsCopy}
use Rattle.masked_tree.specs.Tree.{Tree, IsAt, IsTreePlaced}
use Rattle.masked_tree.proofs.EditLemmas.Copies.{copy_alters, child_branch_alters}
use Rattle.masked_tree.proofs.EditLemmas.Insertion.{node_as_child}
use Rattle.masked_tree.proofs.TreeLemmas.Children.{child_tree_is_placed}
use Rattle.radix_nodes.specs.declared.search.compare.Agreement.{Agreement}
use Rattle.radix_nodes.specs.declared.trie_node.KeyValue.{KeyValue}
use Rattle.radix_nodes.specs.declared.trie_node.TrieNode.{TrieNode, out-TrieNode, roll-TrieNode}
use Rattle.radix_nodes.specs.Nodes.{tree_of, fragment_of, IsMet}
use Rattle.radix_nodes.specs.Pairs.{pairs_in}
use Rattle.radix_nodes.specs.Values.{ChangesBranch, IsChangedBy, TakesBranch, TakesPair}
use Rattle.radix_nodes.proofs.EditLemmas.Branches.{branch_child, branch_below}
use Rattle.radix_nodes.proofs.EditLemmas.Removal.{tree_of-with_child, tree_of-same_child}
use Rattle.radix_nodes.proofs.NodeLemmas.Nodes.{fragment-tree_of}
use Rattle.radix_nodes.proofs.SearchLemmas.Compared.{met_child}
use Rattle.radix_nodes.proofs.SearchLemmas.Nearest.{none_through_child}

module _ {F K V : Type 0} (g : Shared F (Bor K × (MutBor V × Unit {0})) (Unit {0} × (MutBor V × Unit {0}))) (f : F) (n m : TrieNode K V) (key : List ℕ) (depth : ℕ) (h : IsTreePlaced (tree_of n)) (i : ℕ) (a : Agreement)
    (lt : depth < length key) (met : IsMet n key depth i a) (b : Box (TrieNode K V) Global) (is : get_or (out-TrieNode K V n).children.items i b ≡ b) (em : m ≡ b.value) where
  -- the key's path in the node
  abbrev goal_path : List ℕ
  goal_path = fragment_of n ++ drop depth key

  -- m is the node's child at i
  at_m : IsAt i (tree_of n).children (tree_of m)
  at_m = met_child n key depth h m i a lt met b is em

  -- what may be called at each value of a node's branch at the key may be called at each of the child in which the key ends
  pub takes_child : depth + a.same ≡ length key → TakesBranch g f goal_path (tree_of n) → All (TakesPair g f) (pairs_in (tree_of m))
  takes_child e takes = takes (tree_of m) (tree_of n).fragment (branch_child n m key depth h i a lt met b is em e)

  -- and at each of the branch of a child that the key goes on to
  pub takes_below : a.same ≡ length (fragment_of m) → TakesBranch g f goal_path (tree_of n) → TakesBranch g f (fragment_of m ++ drop (depth + a.same) key) (tree_of m)
  takes_below e takes u s d = takes u (fragment_of n ++ s) (branch_below n m key depth h i a lt met b is em e u s d)

  module _ (b' : Box (TrieNode K V) Global) where
    -- the node's tree with another box in the child's place
    abbrev new : Tree (KeyValue K V)
    new = tree_of (roll-TrieNode K V (let o = out-TrieNode K V n in record { fragment = o.fragment; pair = o.pair; mask = o.mask; children = with_item o.children i b' }))

    -- where the child in which the key ends is changed, so is the node's branch at the key
    pub changed_child : depth + a.same ≡ length key → IsCopy (IsChangedBy g f) (tree_of m) (tree_of b'.value) → ChangesBranch g f goal_path (tree_of n) new
    changed_child e copy = inl record {
      path = (tree_of n).fragment;
      was = tree_of m;
      now = tree_of b'.value;
      branch = branch_child n m key depth h i a lt met b is em e;
      copy = copy;
      alters = rw (tree_of-with_child n i b')
          (subst (λ s. AltersNode (all_of s (tree_of m)) (all_of s (tree_of b'.value)) 0 0 0 0 (tree_of n) (with_child i (tree_of b'.value) (tree_of n))) (append-nil (tree_of n).fragment)
          (child_branch_alters (tree_of n) (tree_of m) (tree_of b'.value) (tree_of m) (tree_of b'.value) i [] 0 0 0 0 h at_m
          (copy_alters (IsChangedBy g f) (tree_of m) (tree_of b'.value) (child_tree_is_placed 0 i (tree_of n).children (tree_of m) at_m h.1).1 copy)));
    }

    -- where the branch of a child that the key goes on to is changed, so is the node's
    pub changed_below : a.same ≡ length (fragment_of m) → ChangesBranch g f (fragment_of m ++ drop (depth + a.same) key) (tree_of m) (tree_of b'.value) → ChangesBranch g f goal_path (tree_of n) new
    changed_below e (inl c) = inl record {
      path = fragment_of n ++ c.path;
      was = c.was;
      now = c.now;
      branch = branch_below n m key depth h i a lt met b is em e c.was c.path c.branch;
      copy = c.copy;
      alters = rw (tree_of-with_child n i b', ← fragment-tree_of n)
          (child_branch_alters (tree_of n) (tree_of m) (tree_of b'.value) c.was c.now i c.path 0 0 0 0 h at_m (node_as_child _ _ _ _ _ _ _ _ c.alters));
    }
    changed_below e (inr c) = inr (
      tree_of-same_child n i b b' h (omega (arith, met.within, (out-TrieNode K V n).children.ok.0)) is (c.0 ∙ ap tree_of em),
      none_through_child n key depth h m i a lt met b is em e c.1,
    )
