use Rattle.std.proofs.Common.{◌≡◌}
use Rattle.encoded_keys.specs.Index.{number_in}
use Rattle.encoded_keys.proofs.hash.number.Given as goal

abbrev pub invariant-loop-i : goal.invariant-loop-i
invariant-loop-i l = l.number ≡ number_in l.bytes l.i
