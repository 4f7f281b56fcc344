use Rattle.std.proofs.Common.{◌*◌, ◌%◌, ◌^◌, sym, ap, ◌∙◌}
use Rattle.encoded_keys.specs.Index.{hash_of_bytes, hash_of_list}
use Rattle.encoded_keys.specs.Laid.{packed_bytes}
use Rattle.encoded_keys.proofs.CodeLemmas.Bytes.{packed_bytes-unpacked}
use Rattle.encoded_keys.proofs.hash.hash_of.Goals as goal

pub returns : goal.returns
unfolding hash_of_list
returns c =
    let bytes = sym (packed_bytes-unpacked c.as_packed.result.0.now c.as_packed.result.1 c.as_packed.ensures.padded) ∙ ap packed_bytes c.as_packed.ensures.nibbles in
    ap (λ h. h * 0x9e37_79b9_7f4a_7c15 % 2 ^ 64) (c.hash_bytes.ensures ∙ ap hash_of_bytes bytes)
