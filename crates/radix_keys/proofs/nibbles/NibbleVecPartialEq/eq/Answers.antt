use Rattle.radix_keys.proofs.NibbleLemmas.Packing.{eq-same_flag, eq-other_flag}
use Rattle.radix_keys.proofs.nibbles.NibbleVecPartialEq.eq.Goals as goal

pub returns-then-self-other : goal.returns-then-self-other
returns-then-self-other c =
    rw (← c.self.view_is, ← c.other.view_is, c.eq.ensures, c.as_slice.ensures, c.as_slice-then-self-other.ensures)
    (eq-same_flag c.self.inside.bytes.items c.other.inside.bytes.items c.self.inside.is_odd c.other.inside.is_odd
    c.self.invariant.padded c.other.invariant.padded c.if-self-other.true)

pub returns-else-self-other : goal.returns-else-self-other
returns-else-self-other c =
    rw (← c.self.view_is, ← c.other.view_is)
    (eq-other_flag c.self.inside.bytes.items c.other.inside.bytes.items c.self.inside.is_odd c.other.inside.is_odd
    c.self.invariant.padded c.other.invariant.padded c.if-self-other.false)
