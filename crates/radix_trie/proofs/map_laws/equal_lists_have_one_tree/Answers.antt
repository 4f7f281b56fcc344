use Rattle.radix_trie.proofs.LawLemmas.OneTree.{children_same, fragment_same, nibbles_same, nodes_same, points_same}
use Rattle.radix_trie.proofs.map_laws.equal_lists_have_one_tree.Goals as goal

pub returns : goal.returns
returns g c = record { points = points_same; fragment = fragment_same; children = children_same; nodes = nodes_same; nibbles = nibbles_same }
