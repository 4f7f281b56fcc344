use Rattle.std.proofs.Common.{arith}
use Rattle.nibble_map.specs.Nibbles.{nibbles}
use Rattle.flat_texts.proofs.MapLemmas.{none_above, pair_above}
use Rattle.flat_texts.proofs.reading.nearest.Goals as goal

pub returns-then-found-eq0-clause-pair : goal.returns-then-found-eq0-clause-pair
returns-then-found-eq0-clause-pair c = λ image.
    none_above c.args.image.now image (nibbles c.args.key.now) c.last_prefix-found.result (c.last_prefix-found.ensures.last image) c.if-found-eq0.true

pub returns-clause-pair : goal.returns-clause-pair
returns-clause-pair c = λ image.
    pair_above c.args.image.now image (nibbles c.args.key.now) c.last_prefix-found.result (c.last_prefix-found.ensures.last image) (omega (arith, c.if-found-eq0.false))
