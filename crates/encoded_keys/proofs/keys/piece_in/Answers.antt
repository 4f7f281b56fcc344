use Rattle.std.proofs.Common.{◌-◌, ◌/◌, ◌%◌, length, drop, get_or, nat_eq, sym, ap, subst, ◌∙◌, arith}
use Rattle.std.proofs.lemmas.List.{length-take}
use Rattle.radix_keys.specs.Packing.{IsPadded, unpacked}
use Rattle.radix_keys.proofs.NibbleLemmas.Packing.{length-unpacked_bytes}
use Rattle.encoded_keys.specs.Laid.{piece_of, start_of, halves}
use Rattle.encoded_keys.proofs.CodeLemmas.Reading.{half_at, stands_here}
use Rattle.encoded_keys.proofs.keys.piece_in.Goals as goal

pub part-requires-clause-order : goal.part-requires-clause-order
part-requires-clause-order c =
    let w = stands_here c.args.bytes.now c.args.ends.now c.requires.laid c.args.at c.requires.within in
    omega (arith, w.order, c.start-from.ensures, half_at c.args.ends.now c.args.at)

pub part-requires-clause-within : goal.part-requires-clause-within
part-requires-clause-within c =
    let w = stands_here c.args.bytes.now c.args.ends.now c.requires.laid c.args.at c.requires.within in
    omega (arith, w.within, half_at c.args.ends.now c.args.at)

pub from_packed-requires : goal.from_packed-requires
from_packed-requires c =
    let w = stands_here c.args.bytes.now c.args.ends.now c.requires.laid c.args.at c.requires.within in
    let place = c.part.ensures ∙ ap (λ s. piece_of c.args.bytes.now s (get_or c.args.ends.now c.args.at 0 / 2)) c.start-from.ensures
    ∙ ap (piece_of c.args.bytes.now (start_of 0 (halves c.args.ends.now) c.args.at)) (half_at c.args.ends.now c.args.at) in
    subst (λ p. IsPadded p (nat_eq (get_or c.args.ends.now c.args.at 0 % 2) 1)) (sym place) w.padded

pub returns-clause-code : goal.returns-clause-code
returns-clause-code c =
    let w = stands_here c.args.bytes.now c.args.ends.now c.requires.laid c.args.at c.requires.within in
    let place = c.part.ensures ∙ ap (λ s. piece_of c.args.bytes.now s (get_or c.args.ends.now c.args.at 0 / 2)) c.start-from.ensures
    ∙ ap (piece_of c.args.bytes.now (start_of 0 (halves c.args.ends.now) c.args.at)) (half_at c.args.ends.now c.args.at) in
    c.from_packed.ensures ∙ ap (λ p. unpacked p (nat_eq (get_or c.args.ends.now c.args.at 0 % 2) 1)) place ∙ w.code

pub returns-clause-few : goal.returns-clause-few
returns-clause-few c =
    let odd = nat_eq (get_or c.args.ends.now c.args.at 0 % 2) 1 in
    let half = get_or c.args.ends.now c.args.at 0 / 2 in
    let w = stands_here c.args.bytes.now c.args.ends.now c.requires.laid c.args.at c.requires.within in
    let piece = piece_of c.args.bytes.now c.start-from.result half in
    let place = ap (λ s. piece_of c.args.bytes.now s half) c.start-from.ensures ∙ ap (piece_of c.args.bytes.now (start_of 0 (halves c.args.ends.now) c.args.at)) (half_at c.args.ends.now c.args.at) in
    let padded = subst (λ p. IsPadded p odd) (sym place) w.padded in
    omega (
      arith,
      ap length (c.from_packed.ensures ∙ ap (λ p. unpacked p odd) c.part.ensures),
      length-unpacked_bytes piece odd padded,
      length-take (half - c.start-from.result) (drop c.start-from.result c.args.bytes.now),
      c.type_inv.ends c.args.at,
    )
