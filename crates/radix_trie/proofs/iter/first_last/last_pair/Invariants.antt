use Rattle.std.proofs.Common.{◌≡◌, ◌-◌, length}
use Rattle.std.specs.List.{slice_get}
use Rattle.masked_tree.specs.Tree.{IsFullBelow}
use Rattle.radix_nodes.specs.Nodes.{tree_of}
use Rattle.radix_nodes.specs.Pairs.{pairs_in}
use Rattle.radix_trie.proofs.iter.first_last.last_pair.Given as goal

abbrev pub invariant-loop-child : goal.invariant-loop-child
invariant-loop-child g l = record {
  full : IsFullBelow (tree_of l.at);
  same : slice_get (pairs_in (tree_of l.at)) (length (pairs_in (tree_of l.at)) - 1)
      ≡ slice_get (pairs_in (tree_of l.node)) (length (pairs_in (tree_of l.node)) - 1);
}
