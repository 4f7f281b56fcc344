use Rattle.radix_keys.proofs.NibbleLemmas.Packing.{eq-same_flag, eq-other_flag}
use Rattle.radix_keys.proofs.slices.order.NibbleSlicePartialEq.eq.Goals as goal

pub returns-then-self-other : goal.returns-then-self-other
returns-then-self-other c =
    rw (← c.self.view_is, ← c.other.view_is, c.eq.ensures)
    (eq-same_flag c.self.inside.bytes.now c.other.inside.bytes.now c.self.inside.is_odd c.other.inside.is_odd
    c.self.invariant c.other.invariant c.if-self-other.true)

pub returns-else-self-other : goal.returns-else-self-other
returns-else-self-other c =
    rw (← c.self.view_is, ← c.other.view_is)
    (eq-other_flag c.self.inside.bytes.now c.other.inside.bytes.now c.self.inside.is_odd c.other.inside.is_odd
    c.self.invariant c.other.invariant c.if-self-other.false)
