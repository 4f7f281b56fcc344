use Rattle.radix_nodes.specs.Copies.{IsKeyValueCopy}
use Rattle.radix_nodes.proofs.CopyLemmas.Copies.{bare_copied}
use Rattle.radix_nodes.proofs.whole.copied.copied.Goals as goal

pub returns-clause-copy : goal.returns-clause-copy
returns-clause-copy g c = bare_copied (IsKeyValueCopy g.L.CopyOf.is_copy g.V.Clone.is_clone) c.args.node.now c.in_ok-copy.copy c.copy_children.new.copies c.in_ok-copy.ensures.copy c.in_ok-copy_children.ensures.copy
