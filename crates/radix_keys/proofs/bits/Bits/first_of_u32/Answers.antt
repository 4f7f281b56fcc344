use Rattle.std.proofs.Common.{◌≡◌, arith, ap, subst, ◌∙◌, length, take, IfOk}
use Rattle.radix_keys.specs.Bits.{bits_of}
use Rattle.radix_keys.proofs.BitLemmas.{length-bits_of, length-take-most, bits_of-bytes_high_first}
use Rattle.radix_keys.proofs.bits.Bits.first_of_u32.Goals as goal

pub returns-clause-ok : goal.returns-clause-ok
returns-clause-ok c =
    subst (λ bits. IfOk c.first_of.result (λ v. v ≡ take c.args.count bits))
    (ap bits_of c.to_be_bytes-bytes.ensures ∙ bits_of-bytes_high_first 4 c.args.number)
    c.first_of.ensures.ok

pub returns-clause-succeeds : goal.returns-clause-succeeds
returns-clause-succeeds c =
    let bytes = c.to_be_bytes-bytes.result in
    let four : length bytes ≡ 4 = ap length c.to_be_bytes-bytes.ensures in
    c.first_of.ensures.succeeds (omega (arith, four, length-bits_of bytes, length-take-most c.args.count (bits_of bytes)))
