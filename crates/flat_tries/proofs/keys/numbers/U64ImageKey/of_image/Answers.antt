use Rattle.std.proofs.Common.{◌≡◌, rules, arith, length, sym, ap, ◌∙◌}
use Rattle.std.proofs.lemmas.Nat.{be_bytes_8}
use Rattle.nibble_map.specs.Nibbles.{nibbles}
use Rattle.radix_keys.proofs.NibbleLemmas.Bytes.{length-nibbles}
use Rattle.flat_tries.proofs.keys.numbers.U64ImageKey.of_image.Goals as goal

pub returns-in-Ok-clause-encoded : goal.returns-in-Ok-clause-encoded
returns-in-Ok-clause-encoded c =
    let same : c.in-Ok.bytes ≡ c.args.bytes.now = search rules in
    ap nibbles (sym (be_bytes_8 c.in-Ok.bytes _ (search rules) (search rules) c.from_be_bytes.ensures ∙ same))

pub returns-in-Err-clause-malformed : goal.returns-in-Err-clause-malformed
returns-in-Err-clause-malformed c = λ key is same. c.in-Err.ensures.1 (omega (arith, ap length same, length-nibbles c.args.bytes.now))
