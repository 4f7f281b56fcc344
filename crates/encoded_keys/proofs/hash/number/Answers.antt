use Rattle.std.proofs.Common.{◌≡◌, suc, ◌+◌, ◌*◌, ◌%◌, ◌^◌, refl, ap, ◌∙◌, arith}
use Rattle.encoded_keys.specs.Index.{number_in}
use Rattle.encoded_keys.proofs.hash.number.Goals as goal

pub loop-i-init : goal.loop-i-init
unfolding number_in
loop-i-init c = refl

pub loop-i-preserved : goal.loop-i-preserved
unfolding number_in
loop-i-preserved c =
    let bytes = c.args.bytes.now in
    let i = c.loop-i.i in
    let next : suc i ≡ i + 1 = omega arith in
    ap (λ n. (n * 256 % 2 ^ 64 + c.from.result) % 2 ^ 64) c.loop-i.invariant
    ∙ ap (λ b. (number_in bytes i * 256 % 2 ^ 64 + b) % 2 ^ 64) c.from.ensures
    ∙ ap (number_in bytes) next
