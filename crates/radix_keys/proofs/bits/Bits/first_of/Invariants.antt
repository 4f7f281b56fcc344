use Rattle.std.proofs.Common.{◌≡◌, ◌+◌, ◌*◌, take}
use Rattle.radix_keys.specs.Bits.{bits_of}
use Rattle.radix_keys.proofs.bits.Bits.first_of.Given as goal

abbrev pub invariant-loop-byte : goal.invariant-loop-byte
invariant-loop-byte l = l.list ≡ bits_of (take l.byte-index (take l.whole l.bytes))

abbrev pub invariant-loop-i : goal.invariant-loop-i
invariant-loop-i l = l.list ≡ take (8 * l.whole + l.i) (bits_of l.bytes)
