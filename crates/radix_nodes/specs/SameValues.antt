-- When two pairs count as equal.
use Rattle.std.specs.Prelude.{Bool}
use Rattle.radix_nodes.specs.declared.trie_node.KeyValue.{KeyValue}

-- their values are, by the value type's own `==`
abbrev pub same_values : {K V : Type 0} → (V → V → Bool) → KeyValue K V → KeyValue K V → Bool
same_values eq x y = eq x.value y.value
