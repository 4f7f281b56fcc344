use Rattle.std.proofs.Common.{◌∙◌}
use Rattle.radix_keys.proofs.PartLemmas.{compare_kept}
use Rattle.radix_keys.proofs.parts.order.PartsOrd.cmp.Goals as goal

pub returns : goal.returns
returns c =
    rw (← c.self.view_is, ← c.other.view_is)
    (c.cmp.ensures ∙ compare_kept c.self.inside.bytes.items c.other.inside.bytes.items c.self.invariant c.other.invariant)
