-- No bit of the number is lost.
use Rattle.std.proofs.Common.{◌-◌, arith}
use Rattle.std.proofs.lemmas.Nat.{shl_whole}
use Rattle.least_routes.proofs.blocks.Block.first.Goals as goal

pub returns-else-self-eq128 : goal.returns-else-self-eq128
returns-else-self-eq128 c =
    let s = c.args.self in shl_whole s.number (s.width - s.free) s.free 128 s.fits (omega arith)
