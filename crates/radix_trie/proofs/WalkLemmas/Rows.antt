-- The rows of a walk: from lists of nodes to plain data.
use Rattle.std.proofs.Common.{◌≡◌, ◌<◌, List, [], ◌∷◌, ◌++◌, length, refl, ap, sym, ◌∙◌, arith, Box, Global, Bor, Option, Some, None, option_map}
use Rattle.masked_tree.specs.Tree.{Children}
use Rattle.masked_tree.specs.Sizes.{levels}
use Rattle.radix_nodes.specs.declared.trie_node.KeyValue.{KeyValue}
use Rattle.radix_nodes.specs.declared.trie_node.TrieNode.{TrieNode, out-TrieNode}
use Rattle.radix_nodes.specs.Nodes.{children_of, tree_of}
use Rattle.radix_nodes.proofs.NodeLemmas.Nodes.{children-tree_of}
use Rattle.radix_nodes.specs.Pairs.{own_pair, pair_of}
use Rattle.radix_trie.specs.Walks.{first_pair, with_row}

-- nodes side by side, each in its box
abbrev pub Row : Type 0 → Type 0 → Type 0
Row K V = List (Box (TrieNode K V) Global)

module _ {K V : Type 0} where
  -- a row with a node has a level
  pub levels-some : (bs : Row K V) → 0 < length bs → 0 < levels (children_of bs)
  levels-some [] lt = absurd (omega arith)
  levels-some (b ∷ bs) lt = omega arith

  -- a row with a node is put aside as the last of the rows
  pub with_row-some : (rs : List (Children (KeyValue K V))) (bs : Row K V) → 0 < length bs → with_row rs (children_of bs) ≡ rs ++ children_of bs ∷ []
  with_row-some rs [] lt = absurd (omega (arith, lt))
  with_row-some rs (b ∷ bs) lt = refl

  -- the row of a node's list of children is the children of the node's tree
  pub children_of-row : (t : TrieNode K V) (r : Row K V) → r ≡ (out-TrieNode K V t).children.items → children_of r ≡ (tree_of t).children
  children_of-row t r is = ap children_of is ∙ sym (children-tree_of t)

  -- the list of one pair or none, by a pair that is shown
  pub first_own : (r : Option (Bor (KeyValue K V))) (o : Option (KeyValue K V))
      → option_map (λ (p : Bor (KeyValue K V)). pair_of p.now) r ≡ option_map pair_of o → first_pair r ≡ own_pair o
  first_own None None is = refl
  first_own None (Some q) is = cc
  first_own (Some p) None is = cc
  first_own (Some p) (Some q) is = cc
