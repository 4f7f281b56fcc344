use Rattle.std.proofs.Common.{◌+◌, ◌-◌, ◌/◌, ◌^◌, ◌<◌, length, arith, ap, subst, ◌∙◌}
use Rattle.std.proofs.lemmas.List.{length-map}
use Rattle.frozen_routes.specs.Routes.{AreInFront, base_numbers, bit_counts}
use Rattle.frozen_routes.proofs.RouteLemmas.Parts.{front_to}
use Rattle.frozen_routes.proofs.search.cut.Goals as goal

pub loop-lo-preserved-then-is_in_front : goal.loop-lo-preserved-then-is_in_front
loop-lo-preserved-then-is_in_front g c =
    let rows = c.args.rows.now in
    let fs = base_numbers g.A.Address.number rows in
    let mid = c.loop-lo.lo + (c.loop-lo.hi - c.loop-lo.lo) / 2 in
    let inside : mid < length fs = omega (arith, length-map rows (λ r. g.A.Address.number r.0.base), c.loop-lo-test.true, c.loop-lo.invariant.within) in
    record {
      order = omega (arith, c.loop-lo-test.true);
      within = c.loop-lo.invariant.within;
      before = λ k l. front_to g.A.Address.BITS c.args.is_through c.bits-bits.result c.without_last-quotient.result fs (bit_counts rows) k mid c.requires.rising l inside
          (c.is_in_front.ensures.0 c.if-is_in_front.true);
      after = c.loop-lo.invariant.after;
    }

pub loop-lo-preserved : goal.loop-lo-preserved
loop-lo-preserved g c =
    let rows = c.args.rows.now in
    let fs = base_numbers g.A.Address.number rows in
    let mid = c.loop-lo.lo + (c.loop-lo.hi - c.loop-lo.lo) / 2 in
    let all = length-map rows (λ r. g.A.Address.number r.0.base) in
    record {
      order = omega arith;
      within = omega (arith, c.loop-lo-test.true, c.loop-lo.invariant.within);
      before = c.loop-lo.invariant.before;
      after = λ k l m front. let yes = c.is_in_front.ensures.1 (front_to g.A.Address.BITS c.args.is_through c.bits-bits.result c.without_last-quotient.result fs (bit_counts rows) mid k
          c.requires.rising (omega (arith, l)) (omega (arith, all, m)) front) in
          let no = c.if-is_in_front.false in
          cc (yes, no);
    }

pub returns : goal.returns
returns g c =
    let w = g.A.Address.BITS in
    let rows = c.args.rows.now in
    let fs = base_numbers g.A.Address.number rows in
    let all = length-map rows (λ r. g.A.Address.number r.0.base) in
    let t = c.args.is_through in
    let rest = c.saturating_sub.ensures ∙ ap (λ n. n - c.bits-bits.result) c.BITS.ensures ∙ ap (λ n. w - n) c.bits-bits.ensures in
    let value = c.to_number.ensures.value ∙ ap g.A.Address.number c.base.ensures.value in
    let quotient = c.without_last-quotient.ensures ∙ ap (λ n. n / 2 ^ c.saturating_sub.result) value
    ∙ ap (λ e. g.A.Address.number c.args.network.now.base / 2 ^ e) rest in
    subst (λ q. AreInFront w t c.args.network.now.bits q fs (bit_counts rows) c.loop-lo.lo) quotient
    (subst (λ n. AreInFront w t n c.without_last-quotient.result fs (bit_counts rows) c.loop-lo.lo) c.bits-bits.ensures (record {
      within = omega (arith, all, c.loop-lo.invariant.within, c.loop-lo.invariant.order);
      before = c.loop-lo.invariant.before;
      after = λ k l m. c.loop-lo.invariant.after k (omega (arith, l, c.loop-lo-test.false)) (omega (arith, all, m));
    }))
