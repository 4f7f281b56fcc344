-- How many pairs a node holds that is put together, and a list of children that grows.
use Rattle.std.proofs.Common.{◌≡◌, ◌+◌, ◌≤◌, List, [], ◌∷◌, ◌++◌, Option, Some, None, ap, arith}
use Rattle.std.specs.declared.boxed.Box.{Box}
use Rattle.std.specs.declared.alloc.Global.{Global}
use Rattle.masked_tree.specs.Sizes.{own_count, pair_count}
use Rattle.masked_tree.proofs.TreeLemmas.Sizes.{length-entries_at}
use Rattle.radix_nodes.specs.declared.trie_node.TrieNode.{TrieNode, roll-TrieNode, out-roll-TrieNode}
use Rattle.radix_nodes.specs.declared.trie_node.TrieNode.TheOpen.{TrieNode-F}
use Rattle.radix_nodes.specs.Nodes.{tree_of, children_of, unboxed}
use Rattle.radix_nodes.specs.Soundness.{pair_count_of, pair_count_of_all}
use Rattle.radix_nodes.proofs.CheckerLemmas.Nodes.{pairs_out}

-- a place for a pair counts at most one
own_most : {P : Type 0} (o : Option P) → own_count o ≤ 1
own_most None = omega arith
own_most (Some x) = omega arith

module _ {K V : Type 0} where
  -- a node put together from fields holds at most one pair more than its children
  pub pairs_rolled : (x : TrieNode-F K V (TrieNode K V)) → pair_count_of (roll-TrieNode K V x) ≤ pair_count_of_all x.children.items + 1
  pairs_rolled x =
      let a = pairs_out (roll-TrieNode K V x) in
      let b = ap (λ o. own_count (unboxed o.pair) + pair_count_of_all o.children.items) (out-roll-TrieNode K V x) in
      let c = own_most (unboxed x.pair) in omega (arith, a, b, c)

  -- an empty list of children holds no pairs
  pub pairs_none : (bs : List (Box (TrieNode K V) Global)) → bs ≡ [] → pair_count_of_all bs ≡ 0
  unfolding pair_count_of_all
  pairs_none bs e = ap (λ l. pair_count (children_of l)) e

  -- with a child put behind the others, the children hold that child's pairs more
  pub pairs_pushed : (bs : List (Box (TrieNode K V) Global)) (b : Box (TrieNode K V) Global) → pair_count_of_all (bs ++ b ∷ []) ≡ pair_count_of_all bs + pair_count_of b.value
  unfolding pair_count_of pair_count_of_all
  pairs_pushed [] b = let c = length-entries_at [] (tree_of b.value) in omega (arith, c)
  pairs_pushed (d ∷ bs) b = let c = pairs_pushed bs b in omega (arith, c)
