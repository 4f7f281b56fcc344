use Rattle.std.proofs.Common.{[], ◌++◌, ◌∷◌, refl, ap, sym, ◌∙◌}
use Rattle.nibble_map.specs.Nibbles.{nibbles}
use Rattle.radix_trie.specs.Views.{pairs_below}
use Rattle.frozen_trie.proofs.FrozenLemmas.Thawed.{none_of_empty}
use Rattle.flat_texts.specs.TextImages.{image_pairs, given_pair}
use Rattle.flat_texts.proofs.TableLemmas.{taken_next}
use Rattle.flat_texts.proofs.tables.from_image.Goals as goal

pub loop-at-init : goal.loop-at-init
loop-at-init c = ap (λ m. pairs_below m []) c.new-texts.ensures ∙ none_of_empty nibbles

pub loop-at-preserved : goal.loop-at-preserved
loop-at-preserved c =
    let pair = given_pair c.in-Some.pair in
    c.in-Ok-push.ensures.pairs ∙ ap (λ xs. xs ++ pair ∷ []) c.loop-at.invariant
    ∙ sym (taken_next (image_pairs c.args.image.now) c.loop-at.at pair (c.in-Some.ensures (c.in-Ok.ensures.image.0 refl)))
