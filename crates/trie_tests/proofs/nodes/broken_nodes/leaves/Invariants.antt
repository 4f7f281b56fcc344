use Rattle.std.proofs.Common.{◌≤◌}
use Rattle.radix_nodes.specs.Soundness.{pair_count_of_all}
use Rattle.trie_tests.proofs.nodes.broken_nodes.leaves.Given as goal

abbrev pub invariant-loop-fragment : goal.invariant-loop-fragment
invariant-loop-fragment l = pair_count_of_all l.made.items ≤ l.fragment-index
