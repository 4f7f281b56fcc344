use Rattle.std.proofs.Common.{take}
use Rattle.radix_nodes.specs.Nodes.{out_of}
use Rattle.radix_nodes.proofs.CopyLemmas.Moves.{AreShaped}
use Rattle.radix_nodes.proofs.whole.compact.+blank_children.Given as goal

-- the children before i have their nodes
abbrev pub invariant-loop-i : goal.invariant-loop-i
invariant-loop-i g l = AreShaped (take l.i (out_of l.node).children.items) l.blanks.items
