use Rattle.std.proofs.Common.{arith, ap, length}
use Rattle.radix_keys.proofs.NibbleLemmas.Packing.{length-packed_odd, length-packed_even}
use Rattle.radix_keys.proofs.nibbles.NibbleVec.len.Goals as goal

pub returns-then-self : goal.returns-then-self
returns-then-self c = omega (arith, ap length c.as_slice.ensures, length-packed_odd c.self.invariant c.self.view_is c.if-self.true)

pub returns-else-self : goal.returns-else-self
returns-else-self c = omega (arith, ap length c.as_slice.ensures, length-packed_even c.self.invariant c.self.view_is c.if-self.false)
