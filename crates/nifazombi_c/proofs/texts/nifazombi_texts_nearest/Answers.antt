use Rattle.std.proofs.Common.{sym, subst, option_map, arith}
use Rattle.nibble_map.specs.Nibbles.{nibbles}
use Rattle.radix_trie.specs.Views.{IsPairAbove}
use Rattle.image_parts.proofs.ByteLemmas.{u32_fits}
use Rattle.flat_texts.specs.TextImages.{image_map, pair_in}
use Rattle.nifazombi_c.proofs.ResultLemmas.{told_more}
use Rattle.nifazombi_c.proofs.texts.nifazombi_texts_nearest.Goals as goal

pub overflow_add-result : goal.overflow_add-result
overflow_add-result c =
    let few = u32_fits c.args.image.now 8 c.type_inv.image in
    record { fits = omega (arith, few, c.in-Some.ensures.within) }

pub returns-in-Some-clause-pair : goal.returns-in-Some-clause-pair
returns-in-Some-clause-pair c = λ image.
    subst (λ o. IsPairAbove (image_map c.args.image.now) (nibbles c.args.key.now) (option_map (pair_in c.args.image.now) o))
    (sym (told_more c.in-Some.at)) (c.in-Some.ensures.pair image)
