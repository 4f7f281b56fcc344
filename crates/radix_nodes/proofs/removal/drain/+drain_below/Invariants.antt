use Rattle.std.proofs.Common.{◌≡◌, length, drop, vec_capacity}
use Rattle.masked_tree.specs.Tree.{nodes_in}
use Rattle.radix_nodes.specs.Nodes.{tree_of, out_of}
use Rattle.radix_nodes.proofs.EditLemmas.Drains.{LeavesChildren}
use Rattle.radix_nodes.proofs.removal.drain.+drain_below.Given as goal

abbrev pub decreases-drain_below : goal.decreases-drain_below
decreases-drain_below g l = nodes_in (tree_of l.node.now).children

abbrev pub invariant-loop-i : goal.invariant-loop-i
invariant-loop-i g l = record {
  kept : length (out_of l.node).children.items ≡ l.i-end;
  room : vec_capacity l.list ≡ vec_capacity l.fn.list;
  left : LeavesChildren (tree_of l.fn.node) l.fn.list.items l.list.items (drop l.i (out_of l.node).children.items) l.fn.gone l.gone;
}
