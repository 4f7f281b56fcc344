use Rattle.std.proofs.Common.{◌*◌, ◌^◌, ◌≤◌, inl, inr, ap, arith, one-mul, sym, subst, ◌∙◌}
use Rattle.std.proofs.Math.Pow.{pow_mono}
use Rattle.std.proofs.lemmas.Bool.{cases_lt}
use Rattle.std.proofs.lemmas.Nat.{shl_whole}
use Rattle.frozen_routes.specs.Routes.{IsLastHolder, base_numbers, bit_counts}
use Rattle.frozen_routes.proofs.RouteLemmas.Directory.{none_behind}
use Rattle.frozen_routes.proofs.directory.cell_at.Goals as goal
use Rattle.frozen_routes.proofs.directory.cell_at.Goals.{in-Some, in-None}

pub returns : goal.returns
returns g c =
    let w = g.A.Address.BITS in
    let rows = c.args.rows.now in
    let fs = base_numbers g.A.Address.number rows in
    let count = c.count_below-count.result in
    let first = c.args.first in
    let start = first * 2 ^ c.args.rest in
    let whole = ap (λ n. first * n) (shl_whole 1 1 c.args.rest 128 (omega arith) (omega (arith, c.requires.shift)) ∙ one-mul (2 ^ c.args.rest)) in
    record {
      count = c.count_below-count.ensures;
      around = elim c.match-checked_mul.branch [
        | in-Some b ↦ subst (IsLastHolder w fs (bit_counts rows) count start) (sym b.around-is)
            (subst (λ a. IsLastHolder w fs (bit_counts rows) count a b.follow_parents-around.result) (b.in-Some.ensures.1 ∙ whole) b.follow_parents-around.ensures)
        | in-None b ↦
            let behind : 2 ^ w ≤ start = elim (cases_lt start (2 ^ 128)) [
              | inl lt ↦ absurd (b.in-None.ensures (omega (arith, whole, lt)))
              | inr ge ↦ (let most = pow_mono g.met.A.Address.bits_fit.1 in omega (arith, most, ge))
            ] in
            subst (IsLastHolder w fs (bit_counts rows) count start) (sym b.around-is) (none_behind w fs (bit_counts rows) count start c.requires.rising c.count_below-count.ensures.within behind)
      ];
    }

pub follow_parents-around-requires-clause-rising : goal.follow_parents-around-requires-clause-rising
follow_parents-around-requires-clause-rising g c = c.requires.rising

pub follow_parents-around-requires-clause-links : goal.follow_parents-around-requires-clause-links
follow_parents-around-requires-clause-links g c = c.requires.links

pub follow_parents-around-requires-clause-before : goal.follow_parents-around-requires-clause-before
follow_parents-around-requires-clause-before g c = λ k l.
    let below = c.count_below-count.ensures.before k l in
    let start = c.in-Some.ensures.1 in
    let whole = ap (λ n. c.args.first * n) (shl_whole 1 1 c.args.rest 128 (omega arith) (omega (arith, c.requires.shift)) ∙ one-mul (2 ^ c.args.rest)) in
    omega (arith, below, start, whole)

pub follow_parents-around-requires-clause-around : goal.follow_parents-around-requires-clause-around
follow_parents-around-requires-clause-around g c = record {
  within = omega arith;
  holds = λ some. absurd (omega (arith, some));
  none = λ k l m. absurd (omega (arith, m));
}

pub count_below-count-requires-clause-rising : goal.count_below-count-requires-clause-rising
count_below-count-requires-clause-rising g c = c.requires.rising
