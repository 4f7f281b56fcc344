use Rattle.std.proofs.Common.{◌≡◌, length}
use Rattle.masked_tree.specs.Tree.{nodes_in}
use Rattle.radix_nodes.specs.Nodes.{tree_of, out_of}
use Rattle.radix_nodes.specs.Values.{IsChangedBy}
use Rattle.radix_nodes.proofs.CopyLemmas.Values.{ChangesBefore}
use Rattle.radix_nodes.proofs.whole.values.+change_values.Given as goal

abbrev pub decreases-change_values : goal.decreases-change_values
decreases-change_values g l = nodes_in (tree_of l.node.now).children

abbrev pub invariant-loop-i : goal.invariant-loop-i
invariant-loop-i g l = record {
  kept : length (out_of l.node).children.items ≡ l.i-end;
  before : ChangesBefore (IsChangedBy g.F.Fn l.f) l.i l.fn.node l.node;
}
