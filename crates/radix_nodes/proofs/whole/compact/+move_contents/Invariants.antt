use Rattle.std.proofs.Common.{◌≡◌, length}
use Rattle.masked_tree.specs.Tree.{nodes_in}
use Rattle.radix_nodes.specs.Nodes.{tree_of, out_of}
use Rattle.radix_nodes.proofs.CopyLemmas.Moves.{MovesBefore}
use Rattle.radix_nodes.proofs.whole.compact.+move_contents.Given as goal

abbrev pub decreases-move_contents : goal.decreases-move_contents
decreases-move_contents g l = nodes_in (tree_of l.from.now).children

abbrev pub invariant-loop-i : goal.invariant-loop-i
invariant-loop-i g l = record {
  kept : length (out_of l.from).children.items ≡ l.i-end;
  before : MovesBefore l.i l.fn.from l.from l.into;
}
