use Rattle.std.proofs.Common.{inr, length, ap, arith}
use Rattle.radix_keys.proofs.NibbleLemmas.Packing.{length-unpacked_even, length-unpacked_odd}
use Rattle.radix_keys.proofs.NibbleLemmas.Slices.{byte_count}
use Rattle.radix_keys.proofs.slices.NibbleSlice.count_in.Goals as goal
use Rattle.radix_keys.proofs.slices.NibbleSlice.count_in.Goals.{else-self-via-then-self+else-bytes-self, else-self-via-else-self}

pub returns-then-bytes-self-clause-all : goal.returns-then-bytes-self-clause-all
returns-then-bytes-self-clause-all c =
    inr (omega (arith, ap length c.self.view_is, length-unpacked_odd c.self.inside.bytes.now c.self.inside.is_odd c.self.invariant c.if-self.true, c.if-bytes-self.true))

pub returns-else-self-clause-within : goal.returns-else-self-clause-within
returns-else-self-clause-within c =
    let bytes = byte_count c.self.inside.bytes.now c.self.inside.is_odd c.args.self.now c.self.invariant c.self.view_is in
    elim c.else-self.branch [
      | else-self-via-then-self+else-bytes-self w ↦ omega (arith, c.requires.within, bytes, w.if-bytes-self.false)
      | else-self-via-else-self w ↦ omega (arith, c.requires.within, bytes, ap length c.self.view_is, length-unpacked_even c.self.inside.bytes.now c.self.inside.is_odd w.if-self.false)
    ]

pub overflow_mul-result-else-self : goal.overflow_mul-result-else-self
overflow_mul-result-else-self c =
    let bytes = byte_count c.self.inside.bytes.now c.self.inside.is_odd c.args.self.now c.self.invariant c.self.view_is in
    record { fits = omega (arith, c.requires.within, bytes, c.self.told.1) }
