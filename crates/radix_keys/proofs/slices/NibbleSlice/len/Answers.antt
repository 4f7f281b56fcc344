use Rattle.std.proofs.Common.{length, ap, arith}
use Rattle.radix_keys.proofs.NibbleLemmas.Packing.{length-unpacked_odd, length-unpacked_even}
use Rattle.radix_keys.proofs.slices.NibbleSlice.len.Goals as goal

pub returns-then-self : goal.returns-then-self
returns-then-self c = omega (arith, ap length c.self.view_is, length-unpacked_odd c.self.inside.bytes.now c.self.inside.is_odd c.self.invariant c.if-self.true)

pub returns-else-self : goal.returns-else-self
returns-else-self c = omega (arith, ap length c.self.view_is, length-unpacked_even c.self.inside.bytes.now c.self.inside.is_odd c.if-self.false)
