use Rattle.std.proofs.Common.{◌<◌, arith}
use Rattle.nibble_map.specs.Nibbles.{nibbles}
use Rattle.encoded_keys.specs.Heads.{head_padded}
use Rattle.encoded_keys.proofs.CodeLemmas.Sides.{greater_side, less_side}
use Rattle.flat_texts.specs.TextImages.{key_bound, key_code}
use Rattle.flat_texts.proofs.HeadLemmas.{behind_by_head, front_by_head, other_by_head}
use Rattle.flat_texts.proofs.ImageLemmas.{code_fits}
use Rattle.flat_texts.proofs.search.side_at.Goals as goal

pub returns-then-head-sought : goal.returns-then-head-sought
returns-then-head-sought c = λ head.
    let t = c.args.sought.now.is_through in
    let q = nibbles c.args.sought.now.key.now in
    let code = key_code c.args.image.now c.args.at in
    less_side t q code (front_by_head t code q (λ k _. c.requires.nibbles k)
    (omega (arith, c.if-head-sought.true, c.head_at-head.ensures, head, c.requires.bound)))

pub returns-then-head-sought-2 : goal.returns-then-head-sought-2
returns-then-head-sought-2 c = λ head.
    let t = c.args.sought.now.is_through in
    let q = nibbles c.args.sought.now.key.now in
    let code = key_code c.args.image.now c.args.at in
    let more : key_bound t q < head_padded 0 16 code = omega (arith, c.if-head-sought-2.true, c.head_at-head.ensures, head, c.requires.bound) in
    greater_side t q code (behind_by_head t code q (λ k _. code_fits c.args.image.now (λ i. (c.type_inv.image i).fits) c.args.at k) more) (other_by_head t code q more)
