-- The pairs that nodes keep.
use Rattle.std.specs.Prelude.{ℕ, List, [], ◌∷◌, map, Option, Some, None}
use Rattle.masked_tree.specs.Tree.{Tree, Children, entries_in, entries_at}
use Rattle.radix_nodes.specs.declared.trie_node.KeyValue.{KeyValue}

module _ {K V : Type 0} where
  abbrev pub pair_of : KeyValue K V → K × V
  pair_of x = (x.key, x.value)

  -- the pairs of entries, without their paths
  abbrev pub pairs_of : List (List ℕ × KeyValue K V) → List (K × V)
  pairs_of es = map (λ e. pair_of e.1) es

  -- the pairs at and below a node, in the nodes' order: its own first, then those of one child
  -- after another
  abbrev pub pairs_in : Tree (KeyValue K V) → List (K × V)
  pairs_in t = pairs_of (entries_at [] t)

  -- the same of several nodes
  abbrev pub pairs_in_all : Children (KeyValue K V) → List (K × V)
  pairs_in_all children = pairs_of (entries_in [] children)

  -- the pair at a node, if there is one
  abbrev pub own_pair : Option (KeyValue K V) → List (K × V)
  own_pair None = []
  own_pair (Some p) = pair_of p ∷ []
