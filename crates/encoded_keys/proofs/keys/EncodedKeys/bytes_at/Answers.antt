use Rattle.std.proofs.Common.{length, sym, ap, ◌∙◌, arith}
use Rattle.encoded_keys.specs.Laid.{packed_bytes}
use Rattle.encoded_keys.proofs.CodeLemmas.Bytes.{packed_bytes-unpacked}
use Rattle.encoded_keys.proofs.keys.EncodedKeys.bytes_at.Goals as goal

pub returns-clause-bytes : goal.returns-clause-bytes
returns-clause-bytes c =
    sym (packed_bytes-unpacked c.as_packed.result.0.now c.as_packed.result.1 c.as_packed.ensures.padded) ∙ ap packed_bytes (c.as_packed.ensures.nibbles ∙ c.piece.ensures.code)

pub returns-clause-few : goal.returns-clause-few
returns-clause-few c = omega (arith, c.piece.ensures.few, ap length c.piece.ensures.code)
