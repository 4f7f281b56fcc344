-- The first node of a row, of which some nibbles of the fragment lie above.
use Rattle.std.proofs.Common.{◌≡◌, ◌+◌, ◌<◌, ℕ, ◌∷◌, Box, Global, length, ap, sym, ◌∙◌, drop}
use Rattle.masked_tree.specs.Tree.{IsPlaced, front}
use Rattle.radix_nodes.specs.declared.trie_node.TrieNode.{TrieNode, out-TrieNode}
use Rattle.radix_nodes.specs.Nodes.{children_of, tree_of}
use Rattle.radix_nodes.proofs.NodeLemmas.Nodes.{fragment-tree_of}
use Rattle.radix_trie.specs.Combinations.{behind, lead}
use Rattle.radix_trie.proofs.CombinationLemmas.Trees.{fragment_ahead, lead_is}
use Rattle.radix_trie.proofs.WalkLemmas.Rows.{Row}

module _ {K V : Type 0} (d : ℕ) (row others : Row K V) (b : Box (TrieNode K V) Global) (n : TrieNode K V) (is : row ≡ b ∷ others) (node : n ≡ b.value) where
  -- the children of the row begin with it
  pub row_begins : behind d (children_of row) ≡ behind d (front (tree_of n) (children_of others))
  row_begins = ap (λ r. behind d (children_of r)) is ∙ ap (λ m. behind d (front (tree_of m) (children_of others))) (sym node)

  module _ (placed : IsPlaced 0 (behind d (children_of row))) where
    -- what lies below of its fragment leads on
    pub row_leads : (d < length (out-TrieNode K V n).fragment) × (lead (behind d (children_of row)) ≡ drop d (out-TrieNode K V n).fragment)
    row_leads = lead_is d (tree_of n) _ (children_of others) row_begins placed _ (fragment-tree_of n)

    -- so many nibbles of it
    pub row_ahead : (length (tree_of n).fragment ≡ length (out-TrieNode K V n).fragment) × (d < length (tree_of n).fragment) × (length (lead (behind d (children_of row))) + d ≡ length (tree_of n).fragment)
    row_ahead = let h = fragment_ahead d (tree_of n) _ (children_of others) row_begins placed in (ap length (fragment-tree_of n), h.0, h.1)
