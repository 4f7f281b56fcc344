use Rattle.nibble_map.proofs.TreeLemmas.OneTree.{node_count, nibble_count, few_nodes, fragments_are, nearest_above, nearest_below, search_count, visit_count}
use Rattle.nibble_map.proofs.canonical_laws.canonical_trees_tell_the_map.Goals as goal

pub returns : goal.returns
returns g c = record { nodes = node_count; nibbles = nibble_count; few = few_nodes; fragments = fragments_are; raw_ancestor = nearest_above; raw_descendant = nearest_below; compared = search_count; visited = visit_count }
