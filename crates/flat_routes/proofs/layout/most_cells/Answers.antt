use Rattle.std.proofs.Common.{◌≤◌, ◌^◌, arith, one-mul, ◌∙◌}
use Rattle.std.proofs.Math.Pow.{pow_mono}
use Rattle.std.proofs.lemmas.Nat.{shl_whole}
use Rattle.flat_routes.proofs.layout.most_cells.Goals as goal

pub returns-clause-few : goal.returns-clause-few
returns-clause-few c =
    let few = c.bits_for.ensures.few in
    let whole = shl_whole 1 1 c.bits_for.result 64 (omega arith) (omega (arith, few)) ∙ one-mul (2 ^ c.bits_for.result) in
    let most : 2 ^ c.bits_for.result ≤ 2 ^ 21 = pow_mono few in
    omega (arith, whole, most)
