use Rattle.nibble_map.specs.Nibbles.{nibbles}
use Rattle.flat_texts.proofs.MapLemmas.{pairs_counted}
use Rattle.flat_texts.proofs.ranges.rank.Goals as goal

pub returns-clause-count : goal.returns-clause-count
returns-clause-count c = λ image. pairs_counted c.args.image.now image (nibbles c.args.key.now) c.cut-at.result.0 (c.cut-at.ensures.cut image)
