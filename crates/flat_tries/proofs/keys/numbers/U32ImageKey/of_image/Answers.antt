use Rattle.std.proofs.Common.{arith, length, ap}
use Rattle.radix_keys.proofs.NibbleLemmas.Bytes.{length-nibbles}
use Rattle.flat_tries.proofs.keys.numbers.U32ImageKey.of_image.Goals as goal

pub returns-in-Err-clause-malformed : goal.returns-in-Err-clause-malformed
returns-in-Err-clause-malformed c = λ key is same. c.in-Err.ensures.1 (omega (arith, ap length same, length-nibbles c.args.bytes.now))
