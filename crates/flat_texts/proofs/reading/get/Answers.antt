use Rattle.std.proofs.Common.{◌≡◌, ◌<◌, length, refl, true, false, subst, sym, ◌∙◌, arith}
use Rattle.nibble_map.specs.Nibbles.{nibbles}
use Rattle.encoded_keys.specs.Codes.{code_at}
use Rattle.encoded_keys.proofs.CodeLemmas.Links.{equal_stands_at}
use Rattle.flat_texts.specs.TextImages.{key_codes}
use Rattle.flat_texts.proofs.ImageLemmas.{codes_rise, length-codes}
use Rattle.flat_texts.proofs.MapLemmas.{key_found, no_value, value_found}
use Rattle.flat_texts.proofs.reading.get.Goals as goal

pub returns-then-is_found-clause-key : goal.returns-then-is_found-clause-key
returns-then-is_found-clause-key c = λ image.
    let here = (c.cut-at.ensures.found image refl).0 c.if-is_found.true in
    key_found c.args.image.now image c.cut-at.result.0 c.args.key.now (let l = here.0 in omega (arith, l, length-codes c.args.image.now)) here.1

pub returns-then-is_found-clause-value : goal.returns-then-is_found-clause-value
returns-then-is_found-clause-value c = λ image.
    let here = (c.cut-at.ensures.found image refl).0 c.if-is_found.true in
    value_found c.args.image.now image c.cut-at.result.0 c.args.key.now (let l = here.0 in omega (arith, l, length-codes c.args.image.now)) here.1

pub returns-clause-value : goal.returns-clause-value
returns-clause-value c = λ image.
    let bs = c.args.image.now in
    let q = nibbles c.args.key.now in
    no_value bs image q (λ i l e.
    let at = equal_stands_at (key_codes bs) q c.cut-at.result.0 (codes_rise bs image.pairs) (c.cut-at.ensures.cut image) i l e in
    let yes = (c.cut-at.ensures.found image refl).1 (subst (λ k. k < length (key_codes bs)) at l, subst (λ k. code_at (key_codes bs) k ≡ q) at e) in
    let no : true ≡ false = sym yes ∙ c.if-is_found.false in
    cc no)
