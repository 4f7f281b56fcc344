use Rattle.std.proofs.Common.{◌-◌, ◌<◌, length, arith}
use Rattle.std.proofs.lemmas.List.{length-map}
use Rattle.frozen_routes.specs.Routes.{base_numbers, bit_counts}
use Rattle.frozen_routes.proofs.RouteLemmas.Links.{around_on}
use Rattle.frozen_routes.proofs.search.last_around.Goals as goal

pub loop-at-preserved : goal.loop-at-preserved
loop-at-preserved g c =
    let w = g.A.Address.BITS in
    let number = g.A.Address.number in
    let rows = c.args.rows.now in
    let fs = base_numbers number rows in
    let bs = bit_counts rows in
    let at = c.loop-at.at in
    let all = length-map rows (λ r. number r.0.base) in
    let within = c.loop-at.invariant.within in
    let some : 0 < at = omega (arith, c.if-at-gt0.true) in
    let link = c.requires.links (at - 1) (omega (arith, c.requires.linked, within, some)) in
    let next = around_on w fs bs (number c.args.network.now.base) c.bits-bits.result (length rows) at _ c.requires.rising some (omega (arith, all, within))
    (c.loop-at.invariant.holds some) (omega (arith, c.bits_at.ensures, c.if-bits_at-bits.true)) c.loop-at.invariant.none link in
    record {
      within = omega (arith, link.within, within);
      holds = next.0;
      none = next.1;
    }

pub returns-else-bits_at-bits : goal.returns-else-bits_at-bits
returns-else-bits_at-bits g c = record {
  within = c.loop-at.invariant.within;
  holds = λ some. (c.loop-at.invariant.holds some, omega (arith, c.bits_at.ensures, c.bits-bits.ensures, c.if-bits_at-bits.false));
  none = λ k l m p. let most = p.1 in c.loop-at.invariant.none k l m (p.0, omega (arith, most, c.bits-bits.ensures));
}

pub returns-after-loop-at : goal.returns-after-loop-at
returns-after-loop-at g c =
    let number = g.A.Address.number in
    let rows = c.args.rows.now in
    let at = c.loop-at.at in
    let all = length-map rows (λ r. number r.0.base) in
    record {
      within = c.loop-at.invariant.within;
      holds = λ some.
          let base = c.requires.rising.bases (at - 1) (omega (arith, all, some, c.loop-at.invariant.within)) in
          let most = base.1 in
          (c.loop-at.invariant.holds some, omega (arith, most, c.bits-bits.ensures, c.BITS.ensures, c.loop-at-test.false));
      none = λ k l m p. let most = p.1 in c.loop-at.invariant.none k l m (p.0, omega (arith, most, c.bits-bits.ensures));
    }
