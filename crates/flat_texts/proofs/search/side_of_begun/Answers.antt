use Rattle.std.proofs.Common.{◌*◌, length, min, arith, subst, sym}
use Rattle.nibble_map.specs.Nibbles.{nibbles}
use Rattle.radix_keys.proofs.NibbleLemmas.Bytes.{length-nibbles}
use Rattle.encoded_keys.specs.Codes.{IsSide}
use Rattle.flat_texts.proofs.HeadLemmas.{begun_plain, begun_through}
use Rattle.flat_texts.proofs.search.side_of_begun.Goals as goal

pub returns-then-is_through : goal.returns-then-is_through
returns-then-is_through c = λ same.
    let own = c.args.own.now in
    let key = c.args.key.now in
    begun_through (nibbles key) (nibbles own) (2 * min (length own) (length key)) same c.args.is_through c.if-is_through.true
    (omega (arith, length-nibbles own, length-nibbles key))

pub returns : goal.returns
returns c = λ same.
    let own = c.args.own.now in
    let key = c.args.key.now in
    subst (IsSide c.args.is_through (nibbles key) (nibbles own)) (sym c.cmp.ensures)
    (begun_plain (nibbles key) (nibbles own) (2 * min (length own) (length key)) same c.args.is_through (length own) (length key) c.if-is_through.false
    (omega (arith, length-nibbles own, length-nibbles key)) (length-nibbles own) (length-nibbles key))
