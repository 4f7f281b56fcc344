use Rattle.std.proofs.Common.{take}
use Rattle.masked_tree.specs.Tree.{Children}
use Rattle.masked_tree.specs.Same.{AreChildCopies}
use Rattle.masked_tree.specs.Turned.{append, turned_half}
use Rattle.radix_nodes.specs.Copies.{IsKeyValueCopy}
use Rattle.radix_nodes.specs.Nodes.{out_of, children_of}
use Rattle.radix_nodes.specs.declared.trie_node.KeyValue.{KeyValue}
use Rattle.radix_nodes.proofs.whole.ascending.push_half.Given as goal

-- the children before i that are in the half are copied
abbrev pub invariant-loop-i : goal.invariant-loop-i
invariant-loop-i g l =
    (k : Children (KeyValue g.row.K.Denot g.row.V.Denot)) → AreChildCopies (IsKeyValueCopy g.L.CopyOf.is_copy g.V.Clone.is_clone) k (children_of l.initial.copies.items) →
    AreChildCopies (IsKeyValueCopy g.L.CopyOf.is_copy g.V.Clone.is_clone) (append k (turned_half l.high (children_of (take l.i (out_of l.node).children.items)))) (children_of l.copies.items)
