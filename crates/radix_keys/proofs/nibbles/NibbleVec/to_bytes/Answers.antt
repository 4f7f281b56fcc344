use Rattle.std.proofs.Common.{length, arith, ap}
use Rattle.radix_keys.proofs.NibbleLemmas.Packing.{length-unpacked_odd, length-unpacked_even}
use Rattle.radix_keys.proofs.nibbles.NibbleVec.to_bytes.Goals as goal

pub returns-then-self-clause-odd : goal.returns-then-self-clause-odd
returns-then-self-clause-odd c = λ _.
    omega (arith, ap length c.self.view_is, length-unpacked_odd c.self.inside.bytes.items c.self.inside.is_odd c.self.invariant.padded c.if-self.true)

pub returns-in-Ok-clause-even : goal.returns-in-Ok-clause-even
returns-in-Ok-clause-even c = λ odd. absurd
    (omega (arith, ap length c.self.view_is, length-unpacked_even c.self.inside.bytes.items c.self.inside.is_odd c.if-self.false))

pub returns-in-Err-clause-even : goal.returns-in-Err-clause-even
returns-in-Err-clause-even c = λ odd. absurd
    (omega (arith, ap length c.self.view_is, length-unpacked_even c.self.inside.bytes.items c.self.inside.is_odd c.if-self.false))
