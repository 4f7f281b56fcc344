-- The pair that a reference into a node shows.
use Rattle.std.proofs.Common.{◌≡◌, Option, Some, None, option_map, ap, sym, ◌∙◌, Bor}
use Rattle.std.specs.Prelude.{MatchOption, IsSomeAnd}
use Rattle.std.specs.declared.boxed.Box.{Box}
use Rattle.std.specs.declared.alloc.Global.{Global}
use Rattle.radix_nodes.specs.declared.trie_node.KeyValue.{KeyValue}
use Rattle.radix_nodes.specs.declared.trie_node.TrieNode.{TrieNode, out-TrieNode}
use Rattle.radix_nodes.specs.Nodes.{tree_of, unboxed}
use Rattle.radix_nodes.specs.Pairs.{pair_of}
use Rattle.radix_nodes.proofs.NodeLemmas.Nodes.{pair-tree_of}

module _ {K V : Type 0} where
  pointed : (o : Option (Box (KeyValue K V) Global)) (r : Option (Bor (KeyValue K V)))
      → MatchOption o (r ≡ None) (λ b. IsSomeAnd r (λ p. p.now ≡ b.value)) → option_map (λ (p : Bor (KeyValue K V)). pair_of p.now) r ≡ option_map pair_of (unboxed o)
  pointed None r is = ap (option_map (λ (p : Bor (KeyValue K V)). pair_of p.now)) is
  pointed (Some b) None is = absurd is
  pointed (Some b) (Some p) is = ap (λ x. Some (pair_of x)) is

  -- a reference to what a node keeps as its pair shows the pair of its tree
  pub pair_pointed : (n : TrieNode K V) (r : Option (Bor (KeyValue K V)))
      → MatchOption (out-TrieNode K V n).pair (r ≡ None) (λ b. IsSomeAnd r (λ p. p.now ≡ b.value))
      → option_map (λ (p : Bor (KeyValue K V)). pair_of p.now) r ≡ option_map pair_of (tree_of n).pair
  pair_pointed n r is = pointed (out-TrieNode K V n).pair r is ∙ ap (option_map pair_of) (sym (pair-tree_of n))

  -- where two pairs are the same, so are their values
  pub value_pointed : (r : Option (Bor (KeyValue K V))) (o : Option (KeyValue K V))
      → option_map (λ (p : Bor (KeyValue K V)). pair_of p.now) r ≡ option_map pair_of o
      → option_map (λ (p : Bor (KeyValue K V)). p.now.value) r ≡ option_map (λ p. p.value) o
  value_pointed None None is = cc
  value_pointed None (Some q) is = cc
  value_pointed (Some p) None is = cc
  value_pointed (Some p) (Some q) is = ap (option_map (λ (x : K × V). x.1)) is
