use Rattle.std.proofs.Common.{◌<◌, length, subst, sym}
use Rattle.radix_nodes.specs.Copies.{IsKeyValueCopy}
use Rattle.radix_nodes.proofs.CopyLemmas.Turned.{child_turned, fragment_of-copy}
use Rattle.radix_nodes.proofs.whole.ascending.turned_child.Goals as goal

pub turn_over-requires : goal.turn_over-requires
turn_over-requires g c =
    let same = fragment_of-copy (IsKeyValueCopy g.L.CopyOf.is_copy g.V.Clone.is_clone) c.args.child.now c.in_ok-copy.copy c.in_ok-copy.ensures.copy in
    subst (λ f. 0 < length f) (sym same) c.requires

pub returns : goal.returns
returns g c =
    child_turned (IsKeyValueCopy g.L.CopyOf.is_copy g.V.Clone.is_clone) c.args.child.now c.in_ok-copy.copy c.turn_over.new.self c.turn_over.ensures c.in_ok-copy.ensures.copy
