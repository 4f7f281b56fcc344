-- A node's sizes by its fields.
use Rattle.std.proofs.Common.{◌≡◌, ℕ, suc, ◌+◌, ◌<◌, ◌≤◌, max, List, [], length, get_or, drop, drop-cons, add-one, Option, Some, None, IsSome, false, true, refl, ap, sym, subst, arith}
use Rattle.std.specs.declared.boxed.Box.{Box}
use Rattle.std.specs.declared.alloc.Global.{Global}
use Rattle.masked_tree.specs.Tree.{IsAt, entries_at, nodes_in, nibbles_in}
use Rattle.masked_tree.specs.Sizes.{own_count, pair_count, levels}
use Rattle.masked_tree.proofs.TreeLemmas.Sizes.{length-entries_at, fewer_nodes, no_more_pairs}
use Rattle.radix_nodes.specs.declared.trie_node.TrieNode.{TrieNode, out-TrieNode}
use Rattle.radix_nodes.specs.Nodes.{tree_of, children_of, unboxed}
use Rattle.radix_nodes.proofs.NodeLemmas.Nodes.{fragment-tree_of, pair-tree_of, children-tree_of, box_is_at}

-- a place that holds a pair counts one
pub own_some : {P : Type 0} (o : Option P) → IsSome o → own_count o ≡ 1
own_some None s = absurd (let i : false ≡ true = s in cc i)
own_some (Some x) s = refl

-- a place that holds no pair counts none
pub own_none : {P : Type 0} (o : Option P) → o ≡ None → own_count o ≡ 0
own_none o e = ap own_count e

module _ {K V : Type 0} where
  -- how many pairs a node holds: its own and its children's, by its fields
  pub pairs_out : (n : TrieNode K V) → length (entries_at [] (tree_of n)) ≡ own_count (unboxed (out-TrieNode K V n).pair) + pair_count (children_of (out-TrieNode K V n).children.items)
  pairs_out n =
      let a = length-entries_at [] (tree_of n) in let b = ap own_count (pair-tree_of n) in let c = ap pair_count (children-tree_of n) in omega (arith, a, b, c)

  -- how many pairs the children from i on hold: the one at i, and those after it
  pub pairs_next : (bs : List (Box (TrieNode K V) Global)) (i : ℕ) (b : Box (TrieNode K V) Global) → i < length bs → b ≡ get_or bs i b →
      pair_count (children_of (drop i bs)) ≡ length (entries_at [] (tree_of b.value)) + pair_count (children_of (drop (i + 1) bs))
  pairs_next bs i b h e =
      rw (add-one, drop-cons bs i b, ← e) (let c = length-entries_at [] (tree_of b.value) in omega (arith, c))

  -- how many nodes are below a node, by its boxes
  pub nodes_out : (n : TrieNode K V) → nodes_in (tree_of n).children ≡ nodes_in (children_of (out-TrieNode K V n).children.items)
  nodes_out n = ap nodes_in (children-tree_of n)

  -- how many nodes the children from i on are and have below them: the one at i, and those after it
  pub nodes_next : (bs : List (Box (TrieNode K V) Global)) (i : ℕ) (b : Box (TrieNode K V) Global) → i < length bs → b ≡ get_or bs i b →
      nodes_in (children_of (drop i bs)) ≡ suc (nodes_in (tree_of b.value).children + nodes_in (children_of (drop (i + 1) bs)))
  nodes_next bs i b h e = rw (add-one, drop-cons bs i b, ← e) refl

  -- how many nibbles a node and those below it have, by its fields
  pub nibbles_out : (n : TrieNode K V) → length (tree_of n).fragment + nibbles_in (tree_of n).children
      ≡ length (out-TrieNode K V n).fragment + nibbles_in (children_of (out-TrieNode K V n).children.items)
  nibbles_out n = let a = ap length (fragment-tree_of n) in let b = ap nibbles_in (children-tree_of n) in omega (arith, a, b)

  -- how many nibbles the children from i on have: the one at i, and those after it
  pub nibbles_next : (bs : List (Box (TrieNode K V) Global)) (i : ℕ) (b : Box (TrieNode K V) Global) → i < length bs → b ≡ get_or bs i b →
      nibbles_in (children_of (drop i bs)) ≡ length (tree_of b.value).fragment + nibbles_in (tree_of b.value).children + nibbles_in (children_of (drop (i + 1) bs))
  nibbles_next bs i b h e = rw (add-one, drop-cons bs i b, ← e) refl

  -- the levels below a node, by its boxes
  pub levels_out : (n : TrieNode K V) → levels (tree_of n).children ≡ levels (children_of (out-TrieNode K V n).children.items)
  levels_out n = ap levels (children-tree_of n)

  -- the levels of the children from i on: the greater of the one at i and those after it
  pub levels_next : (bs : List (Box (TrieNode K V) Global)) (i : ℕ) (b : Box (TrieNode K V) Global) → i < length bs → b ≡ get_or bs i b →
      levels (children_of (drop i bs)) ≡ max (suc (levels (tree_of b.value).children)) (levels (children_of (drop (i + 1) bs)))
  levels_next bs i b h e = rw (add-one, drop-cons bs i b, ← e) refl

  -- a node's child at i
  module _ (n : TrieNode K V) (i : ℕ) (b : Box (TrieNode K V) Global) (lt : i < length (out-TrieNode K V n).children.items) (at : get_or (out-TrieNode K V n).children.items i b ≡ b) where
    -- the child as plain data
    child_at : IsAt i (tree_of n).children (tree_of b.value)
    child_at = subst (λ k. IsAt i k (tree_of b.value)) (sym (children-tree_of n)) (box_is_at (out-TrieNode K V n).children.items i b lt at)

    -- a child has fewer nodes below it than its node, and holds at most as many pairs
    pub child_is_smaller : (nodes_in (tree_of b.value).children < nodes_in (tree_of n).children) × (length (entries_at [] (tree_of b.value)) ≤ length (entries_at [] (tree_of n)))
    child_is_smaller =
        let p = no_more_pairs i (tree_of n).children (tree_of b.value) child_at in let q = length-entries_at [] (tree_of n) in
        (fewer_nodes i (tree_of n).children (tree_of b.value) child_at, omega (arith, p, q))
