-- What a copy of a pair is, and a node's copy without its children.
use Rattle.std.specs.Prelude.{◌≡◌}
use Rattle.masked_tree.specs.Same.{IsPairCopy}
use Rattle.radix_nodes.specs.Nodes.{unboxed}
use Rattle.radix_nodes.specs.declared.trie_node.KeyValue.{KeyValue}
use Rattle.radix_nodes.specs.declared.trie_node.TrieNode.{TrieNode}
use Rattle.radix_nodes.specs.declared.trie_node.TrieNode.TheOpen.{TrieNode-F}

-- y's key is a copy of x's, and y's value a clone of x's, as its type's own `clone` gives it
abbrev pub IsKeyValueCopy : {K L V : Type 0} → (K → L → Type 0) → (V → V → Type 0) → KeyValue K V
    → KeyValue L V → Type 0
IsKeyValueCopy is_key_copy is_value_clone x y =
    is_key_copy x.key y.key × is_value_clone x.value y.value

-- y has x's fragment and mask, and a copy of x's pair
pub record IsBareCopy {K L V : Type 0} (R : KeyValue K V → KeyValue L V → Type 0)
    (x : TrieNode-F K V (TrieNode K V)) (y : TrieNode-F L V (TrieNode L V)) : Type 0 where
  pub fragment : y.fragment ≡ x.fragment
  pub mask : y.mask ≡ x.mask
  pub pair : IsPairCopy R (unboxed x.pair) (unboxed y.pair)
