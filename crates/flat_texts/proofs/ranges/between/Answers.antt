use Rattle.std.proofs.Common.{drop, take, ap, ◌∙◌}
use Rattle.nibble_map.specs.Nibbles.{nibbles}
use Rattle.flat_texts.specs.TextImages.{image_pairs}
use Rattle.flat_texts.proofs.MapLemmas.{pairs_bounded}
use Rattle.flat_texts.proofs.ranges.between.Goals as goal

pub returns-clause-pairs : goal.returns-clause-pairs
returns-clause-pairs c = λ image.
    let bs = c.args.image.now in
    let start = c.cut-start.result.0 in
    ap (λ n. take n (drop start (image_pairs bs))) c.saturating_sub.ensures
    ∙ pairs_bounded bs image (nibbles c.args.from.now) (nibbles c.args.to.now) start c.cut-end.result.0 (c.cut-start.ensures.cut image) (c.cut-end.ensures.cut image)
