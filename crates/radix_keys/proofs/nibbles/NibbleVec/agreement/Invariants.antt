use Rattle.std.proofs.Common.{◌≡◌, ◌*◌, take, drop}
use Rattle.radix_keys.proofs.nibbles.NibbleVec.agreement.Given as goal

abbrev pub invariant-loop-pair : goal.invariant-loop-pair
invariant-loop-pair l = take (2 * l.pair) l.self ≡ take (2 * l.pair) (drop l.depth l.other)
