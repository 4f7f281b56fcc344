use Rattle.std.proofs.Common.{◌∙◌}
use Rattle.radix_keys.proofs.PartLemmas.{equal_bytes}
use Rattle.radix_keys.proofs.parts.order.PartsPartialEq.eq.Goals as goal

pub returns : goal.returns
returns c =
    rw (← c.self.view_is, ← c.other.view_is)
    (c.eq.ensures ∙ equal_bytes c.self.inside.bytes.items c.other.inside.bytes.items c.self.invariant c.other.invariant)
