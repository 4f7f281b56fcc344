use Rattle.std.proofs.Common.{arith, length, ap}
use Rattle.radix_keys.proofs.NibbleLemmas.Bytes.{length-nibbles}
use Rattle.flat_tries.proofs.keys.numbers.U8ImageKey.of_image.Goals as goal

pub returns-else-bytes-eq1-clause-malformed : goal.returns-else-bytes-eq1-clause-malformed
returns-else-bytes-eq1-clause-malformed c = λ key is same. absurd (omega (arith, c.if-bytes-eq1.false, ap length same, length-nibbles c.args.bytes.now))
