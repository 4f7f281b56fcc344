use Rattle.std.proofs.Common.{◌-◌, ◌*◌, length, drop, sym, ap, ◌∙◌, arith}
use Rattle.std.proofs.Math.ListN.{drop_of_length-le}
use Rattle.std.proofs.lemmas.List.{length-drop, take_all}
use Rattle.radix_keys.specs.Packing.{unpacked}
use Rattle.radix_keys.proofs.NibbleLemmas.Slices.{byte_count}
use Rattle.encoded_keys.proofs.CodeLemmas.Behind.{unpacked-drop}
use Rattle.encoded_keys.proofs.keys.blocks.behind.Goals as goal

pub returns-then-skip-bytes : goal.returns-then-skip-bytes
returns-then-skip-bytes c =
    let bs = c.as_packed-is_odd.result.0.now in
    let odd = c.as_packed-is_odd.result.1 in
    let n = c.args.skip in
    c.from_packed.ensures ∙ ap (λ l. unpacked l odd) (take_all (length bs - n) (drop n bs) (omega (arith, length-drop n bs)))
    ∙ unpacked-drop bs odd n c.if-skip-bytes.true ∙ ap (drop (2 * n)) c.as_packed-is_odd.ensures.nibbles

pub returns-else-skip-bytes : goal.returns-else-skip-bytes
returns-else-skip-bytes c =
    let list = c.args.list.now in
    let bytes = byte_count c.as_packed-is_odd.result.0.now c.as_packed-is_odd.result.1 list c.as_packed-is_odd.ensures.padded c.as_packed-is_odd.ensures.nibbles in
    c.from_bytes.ensures ∙ sym (drop_of_length-le list (omega (arith, bytes, c.if-skip-bytes.false)))
