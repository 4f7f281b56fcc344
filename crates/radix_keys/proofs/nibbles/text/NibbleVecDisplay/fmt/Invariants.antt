use Rattle.std.proofs.Common.{take, flat_map, false}
use Rattle.std.specs.Fmt.{HasWritten, IsPlainFormatter, digits}
use Rattle.radix_keys.proofs.nibbles.text.NibbleVecDisplay.fmt.Given as goal

abbrev pub invariant-loop-place : goal.invariant-loop-place
invariant-loop-place g l =
    IsPlainFormatter l.initial.f → HasWritten g.W.Write.write_str_gives l.initial.f (flat_map (digits 16 false) (take l.place l.self)) l.f
