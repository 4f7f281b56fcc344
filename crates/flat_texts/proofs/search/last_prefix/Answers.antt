use Rattle.std.proofs.Common.{◌≡◌, refl, true, false, subst, sym, ◌∙◌, arith}
use Rattle.nibble_map.specs.Lists.{IsBefore}
use Rattle.nibble_map.specs.Nibbles.{nibbles}
use Rattle.encoded_keys.proofs.CodeLemmas.Links.{last_before, last_is_itself}
use Rattle.encoded_keys.proofs.CodeLemmas.Order.{before_by_test}
use Rattle.flat_texts.specs.TextImages.{key_codes}
use Rattle.flat_texts.proofs.ImageLemmas.{code_is, codes_rise, last_of_codes}
use Rattle.flat_texts.proofs.search.last_prefix.Goals as goal

pub returns-then-is_found-clause-last : goal.returns-then-is_found-clause-last
returns-then-is_found-clause-last c = λ image.
    let here = (c.cut-at.ensures.found image refl).0 c.if-is_found.true in
    last_is_itself (key_codes c.args.image.now) (nibbles c.args.key.now) c.cut-at.result.0 (codes_rise c.args.image.now image.pairs) (c.cut-at.ensures.cut image) here.0 here.1

pub returns-clause-last : goal.returns-clause-last
returns-clause-last c = λ image.
    let bs = c.args.image.now in
    let q = nibbles c.args.key.now in
    let at = c.cut-at.result.0 in
    let cut = c.cut-at.ensures.cut image in
    last_before (key_codes bs) q at c.follow_parents.result (codes_rise bs image.pairs) cut
    (λ l e. let no : true ≡ false = sym ((c.cut-at.ensures.found image refl).1 (l, e)) ∙ c.if-is_found.false in cc no)
    (last_of_codes bs at c.follow_parents.result q (omega (arith, c.cut-at.ensures.within, c.requires.pairs))
    (c.follow_parents.ensures.last (λ k l. image.pairs k (omega (arith, l, c.cut-at.ensures.within, c.requires.pairs)))
    (λ k l. subst (λ x. IsBefore x q) (code_is bs k (omega (arith, l, c.cut-at.ensures.within, c.requires.pairs))) (before_by_test _ q (cut.before k l)))))
