use Rattle.std.proofs.Common.{◌+◌, ◌-◌, ◌/◌, inl, inr, arith, get_or}
use Rattle.std.proofs.lemmas.Bool.{cases_lt}
use Rattle.std.proofs.lemmas.List.{length-map}
use Rattle.frozen_routes.specs.Routes.{base_numbers, bit_counts}
use Rattle.frozen_routes.proofs.RouteLemmas.Links.{firsts_to}
use Rattle.frozen_routes.proofs.search.count_to.Goals as goal

pub loop-lo-preserved-then-begins_by : goal.loop-lo-preserved-then-begins_by
loop-lo-preserved-then-begins_by g c =
    let rows = c.args.rows.now in
    let mid = c.loop-lo.lo + (c.loop-lo.hi - c.loop-lo.lo) / 2 in
    let all = length-map rows (λ r. g.A.Address.number r.0.base) in
    record {
      least = omega (arith, c.loop-lo.invariant.least);
      order = omega (arith, c.loop-lo-test.true);
      within = c.loop-lo.invariant.within;
      below = λ k l. omega (
        arith,
        firsts_to g.A.Address.BITS (base_numbers g.A.Address.number rows) (bit_counts rows) k mid c.requires.rising (omega (arith, l))
            (omega (arith, all, c.loop-lo-test.true, c.loop-lo.invariant.within)),
        c.begins_by.ensures.0 c.if-begins_by.true,
      );
      above = c.loop-lo.invariant.above;
    }

pub loop-lo-preserved : goal.loop-lo-preserved
loop-lo-preserved g c =
    let rows = c.args.rows.now in
    let mid = c.loop-lo.lo + (c.loop-lo.hi - c.loop-lo.lo) / 2 in
    let all = length-map rows (λ r. g.A.Address.number r.0.base) in
    record {
      least = omega (arith, c.loop-lo.invariant.least);
      order = omega arith;
      within = omega (arith, c.loop-lo-test.true, c.loop-lo.invariant.within);
      below = c.loop-lo.invariant.below;
      above = λ k l m. elim (cases_lt c.args.number (get_or (base_numbers g.A.Address.number rows) k 0)) [
        | inl lt ↦ lt
        | inr ge ↦
            let le = firsts_to g.A.Address.BITS (base_numbers g.A.Address.number rows) (bit_counts rows) mid k c.requires.rising l (omega (arith, all, m)) in
            let yes = c.begins_by.ensures.1 (omega (arith, le, ge)) in
            let no = c.if-begins_by.false in
            absurd (cc (yes, no))
      ];
    }

pub returns : goal.returns
returns g c =
    let rows = c.args.rows.now in
    let all = length-map rows (λ r. g.A.Address.number r.0.base) in
    record {
      count = record {
        within = omega (arith, all, c.loop-lo.invariant.within, c.loop-lo.invariant.order);
        before = c.loop-lo.invariant.below;
        after = λ k l m. c.loop-lo.invariant.above k (omega (arith, l, c.loop-lo-test.false)) (omega (arith, all, m));
      };
      least = c.loop-lo.invariant.least;
    }
