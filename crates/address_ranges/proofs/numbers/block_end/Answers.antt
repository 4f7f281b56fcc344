use Rattle.std.proofs.Common.{◌^◌, ◌<◌, ◌≤◌, arith}
use Rattle.std.proofs.lemmas.Nat.{one_shl, pow_pos}
use Rattle.address_ranges.proofs.BlockLemmas.{pow_le}
use Rattle.address_ranges.proofs.numbers.block_end.Goals as goal

-- the shift is less than 128
is_below : (c : goal.Else-free-eq128) → c.args.free < 128
is_below c =
    let most : 2 ^ c.args.free ≤ 2 ^ 128 = omega (arith, c.requires) in
    let le = pow_le c.args.free 128 most in
    omega (arith, le, c.if-free-eq128.false)

pub overflow_shl-result : goal.overflow_shl-result
overflow_shl-result c = is_below c

pub overflow_sub-result : goal.overflow_sub-result
overflow_sub-result c = omega (arith, one_shl c.args.free 128 (is_below c), pow_pos c.args.free)

pub returns-else-free-eq128 : goal.returns-else-free-eq128
returns-else-free-eq128 c = omega (arith, one_shl c.args.free 128 (is_below c), pow_pos c.args.free)
