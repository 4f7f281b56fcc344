use Rattle.std.proofs.Common.{◌≡◌, ◌++◌, length, drop}
use Rattle.radix_nodes.specs.Nodes.{tree_of, children_of}
use Rattle.radix_trie.specs.Loci.{child_views}
use Rattle.radix_trie.proofs.view.children.children_of.Given as goal

abbrev pub invariant-loop-child : goal.invariant-loop-child
invariant-loop-child g l = record {
  same : l.children ++ child_views l.trie l.path (children_of (drop l.child-index l.child-items)) ≡ child_views l.trie l.path (tree_of l.node).children;
  count : length l.children ≡ l.child-index;
}
