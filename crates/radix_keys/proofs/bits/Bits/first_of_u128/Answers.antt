use Rattle.std.proofs.Common.{◌≡◌, ap, subst, ◌∙◌, take, IfOk, IsOk}
use Rattle.nibble_map.specs.Nibbles.{IsShort}
use Rattle.radix_keys.specs.Bits.{bits_of}
use Rattle.radix_keys.proofs.BitLemmas.{bits_of-bytes_high_first}
use Rattle.radix_keys.proofs.bits.Bits.first_of_u128.Goals as goal

pub returns-clause-ok : goal.returns-clause-ok
returns-clause-ok c =
    subst (λ bits. IfOk c.first_of.result (λ v. v ≡ take c.args.count bits))
    (ap bits_of c.to_be_bytes.ensures ∙ bits_of-bytes_high_first 16 c.args.number)
    c.first_of.ensures.ok

pub returns-clause-succeeds : goal.returns-clause-succeeds
returns-clause-succeeds c =
    subst (λ bits. IsShort (take c.args.count bits) → IsOk c.first_of.result)
    (ap bits_of c.to_be_bytes.ensures ∙ bits_of-bytes_high_first 16 c.args.number)
    c.first_of.ensures.succeeds
