use Rattle.std.proofs.Common.{◌≡◌, arith, true, false}
use Rattle.radix_keys.proofs.NibbleLemmas.Bytes.{length-nibbles}
use Rattle.radix_keys.proofs.nibbles.NibbleVec.from_slice.Goals as goal

pub returns-in_err-small-clause-succeeds : goal.returns-in_err-small-clause-succeeds
returns-in_err-small-clause-succeeds c = λ short.
    let refused : false ≡ true = c.in_err-small.ensures.succeeds (omega (arith, length-nibbles c.args.bytes.now)) in
    cc
