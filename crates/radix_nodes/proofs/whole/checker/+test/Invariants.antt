use Rattle.std.proofs.Common.{◌≡◌, ◌+◌, ◌++◌, drop}
use Rattle.masked_tree.specs.Tree.{nodes_in}
use Rattle.radix_nodes.specs.declared.trie_node.TrieNode.{out-TrieNode}
use Rattle.radix_nodes.specs.Nodes.{tree_of, fragment_of}
use Rattle.radix_nodes.specs.Soundness.{test_of, tests_of, pair_count_of, pair_count_of_all}
use Rattle.radix_nodes.proofs.whole.checker.+test.Given as goal

abbrev pub decreases-test : goal.decreases-test
decreases-test g l = nodes_in (tree_of l.node.now).children

abbrev pub invariant-loop-child : goal.invariant-loop-child
invariant-loop-child g l =
    (l.count + pair_count_of_all (drop l.child-index l.child-items) ≡ pair_count_of l.node)
    × (tests_of g.K.TrieKey.encoding (l.prefix ++ fragment_of l.node) l.low l.seen (out-TrieNode _ _ l.node).mask (drop l.child-index l.child-items) ≡ test_of g.K.TrieKey.encoding l.prefix l.node)
