use Rattle.std.proofs.Common.{take}
use Rattle.radix_nodes.specs.Copies.{IsKeyValueCopy}
use Rattle.radix_nodes.specs.Nodes.{out_of}
use Rattle.radix_nodes.proofs.CopyLemmas.Copies.{AreCopied}
use Rattle.radix_nodes.proofs.whole.copied.+copy_children.Given as goal

-- the children before i are copied
abbrev pub invariant-loop-i : goal.invariant-loop-i
invariant-loop-i g l = AreCopied (IsKeyValueCopy g.L.CopyOf.is_copy g.V.Clone.is_clone) (take l.i (out_of l.node).children.items) l.copies.items
