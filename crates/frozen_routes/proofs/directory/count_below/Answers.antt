use Rattle.std.proofs.Common.{◌≡◌, ◌*◌, ◌/◌, ◌^◌, ◌<◌, inl, inr, ap, subst, arith, get_or}
use Rattle.std.proofs.lemmas.Bool.{cases_lt}
use Rattle.std.proofs.lemmas.List.{length-map}
use Rattle.frozen_routes.specs.Routes.{base_numbers, bit_counts}
use Rattle.frozen_routes.proofs.RouteLemmas.Links.{firsts_to}
use Rattle.frozen_routes.proofs.RouteLemmas.Directory.{quotient_less, quotient_most}
use Rattle.frozen_routes.proofs.directory.count_below.Goals as goal

pub loop-count-preserved : goal.loop-count-preserved
loop-count-preserved g c =
    let fs = base_numbers g.A.Address.number c.args.rows.now in
    let i = c.loop-count.count in
    let here = quotient_less (get_or fs i 0) c.args.first c.args.rest (omega (arith, ap (λ x. x / 2 ^ c.args.rest) c.first_at.ensures, c.if-first_at-rest.true)) in
    record {
      within = omega (arith, c.loop-count-test.true);
      below = λ k l. elim (cases_lt k i) [
        | inl lt ↦ c.loop-count.invariant.below k lt
        | inr ge ↦ let same : i ≡ k = omega (arith, l, ge) in subst (λ j. get_or fs j 0 < c.args.first * 2 ^ c.args.rest) same here
      ];
    }

pub returns-else-first_at-rest : goal.returns-else-first_at-rest
returns-else-first_at-rest g c =
    let number = g.A.Address.number in
    let rows = c.args.rows.now in
    let fs = base_numbers number rows in
    let i = c.loop-count.count in
    let here = quotient_most (get_or fs i 0) c.args.first c.args.rest (omega (arith, ap (λ x. x / 2 ^ c.args.rest) c.first_at.ensures, c.if-first_at-rest.false)) in
    record {
      within = omega (arith, c.loop-count.invariant.within, length-map rows (λ r. number r.0.base));
      before = c.loop-count.invariant.below;
      after = λ k l m. omega (arith, firsts_to g.A.Address.BITS fs (bit_counts rows) i k c.requires.rising l m, here);
    }
