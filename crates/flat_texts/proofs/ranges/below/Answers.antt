use Rattle.std.proofs.Common.{drop, take, ap, ◌∙◌}
use Rattle.nibble_map.specs.Nibbles.{nibbles}
use Rattle.flat_texts.specs.TextImages.{image_pairs}
use Rattle.flat_texts.proofs.MapLemmas.{pairs_cut}
use Rattle.flat_texts.proofs.ranges.below.Goals as goal

pub returns-clause-pairs : goal.returns-clause-pairs
returns-clause-pairs c = λ image.
    let bs = c.args.image.now in
    let from = c.cut-from.result.0 in
    ap (λ n. take n (drop from (image_pairs bs))) c.saturating_sub.ensures
    ∙ pairs_cut bs image (nibbles c.args.prefix.now) from c.cut-to.result.0 (c.cut-from.ensures.cut image) (c.cut-to.ensures.cut image)
