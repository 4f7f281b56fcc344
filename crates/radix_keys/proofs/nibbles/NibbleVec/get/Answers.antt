use Rattle.std.proofs.Common.{arith, ap, length}
use Rattle.radix_keys.proofs.NibbleLemmas.Packing.{length-unpacked_bytes, get_or-unpacked_even, get_or-unpacked_odd}
use Rattle.radix_keys.proofs.nibbles.NibbleVec.get.Goals as goal

pub bounds-as_slice-i : goal.bounds-as_slice-i
bounds-as_slice-i c =
    omega (arith, ap length c.self.view_is, ap length c.as_slice.ensures, length-unpacked_bytes c.self.inside.bytes.items c.self.inside.is_odd c.self.invariant.padded)

pub returns-then-i-eq0-clause-value : goal.returns-then-i-eq0-clause-value
returns-then-i-eq0-clause-value c =
    rw (← c.self.view_is, c.as_slice.ensures)
    (get_or-unpacked_even c.self.inside.bytes.items c.self.inside.is_odd c.args.i c.self.invariant.padded (omega (arith, ap length c.self.view_is)) (omega arith))

pub returns-else-i-eq0-clause-value : goal.returns-else-i-eq0-clause-value
returns-else-i-eq0-clause-value c =
    rw (← c.self.view_is, c.as_slice.ensures)
    (get_or-unpacked_odd c.self.inside.bytes.items c.self.inside.is_odd c.args.i c.self.invariant.padded (omega (arith, ap length c.self.view_is)) (omega arith))
