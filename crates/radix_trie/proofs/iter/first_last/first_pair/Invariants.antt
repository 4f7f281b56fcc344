use Rattle.std.proofs.Common.{◌≡◌}
use Rattle.std.specs.List.{slice_get}
use Rattle.masked_tree.specs.Tree.{IsFullBelow}
use Rattle.radix_nodes.specs.Nodes.{tree_of}
use Rattle.radix_nodes.specs.Pairs.{pairs_in}
use Rattle.radix_trie.proofs.iter.first_last.first_pair.Given as goal

abbrev pub invariant-loop-pair : goal.invariant-loop-pair
invariant-loop-pair g l = record {
  full : IsFullBelow (tree_of l.at);
  same : slice_get (pairs_in (tree_of l.at)) 0 ≡ slice_get (pairs_in (tree_of l.node)) 0;
}
