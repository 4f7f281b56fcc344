-- The number of a half fits.
use Rattle.std.proofs.Common.{arith}
use Rattle.least_routes.proofs.BlockLemmas.{half_fits, half_fits_in}
use Rattle.least_routes.proofs.blocks.Block.high.Goals as goal

pub overflow_mul-result : goal.overflow_mul-result
overflow_mul-result c =
    let s = c.args.self in omega (arith, half_fits_in 128 s.width s.free s.number s.no_wider c.requires s.within s.fits)

pub overflow_add-result : goal.overflow_add-result
overflow_add-result c =
    let s = c.args.self in omega (arith, half_fits_in 128 s.width s.free s.number s.no_wider c.requires s.within s.fits)

pub invariant_of-result : goal.invariant_of-result
invariant_of-result c =
    let s = c.args.self in
    record {
      no_wider = s.no_wider;
      within = omega arith;
      fits = half_fits s.width s.free s.number c.requires s.within s.fits;
    }
