use Rattle.std.proofs.Common.{arith, sym, ◌∙◌, false, rules}
use Rattle.std.proofs.Output.{has_written_append, has_written_of_eq}
use Rattle.std.proofs.lemmas.List.{get_or_default}
use Rattle.std.specs.Fmt.{digits}
use Rattle.radix_keys.proofs.KeyLemmas.Items.{flat_map-one_more}
use Rattle.radix_keys.proofs.nibbles.text.NibbleVecDisplay.fmt.Goals as goal

pub loop-place-preserved : goal.loop-place-preserved
loop-place-preserved g c = λ plain.
    let list = c.args.self.now in
    let place = c.loop-place.place in
    let nibble = c.get-nibble.result in
    has_written_of_eq _ _ _ _ _
    (sym (flat_map-one_more (digits 16 false) list place nibble (omega (arith, c.len-place-end.ensures))
    (c.get-nibble.ensures.value ∙ get_or_default list place 0 nibble (omega (arith, c.len-place-end.ensures)))))
    (has_written_append _ _ _ _ _ _ (c.loop-place.invariant plain) (search rules))
