use Rattle.std.proofs.Common.{◌-◌, ◌<◌, inl, inr, arith, get_or}
use Rattle.std.proofs.lemmas.Bool.{cases_lt}
use Rattle.std.proofs.lemmas.List.{length-map}
use Rattle.frozen_routes.specs.Routes.{IsHolderAt, base_numbers, bit_counts}
use Rattle.frozen_routes.proofs.RouteLemmas.Links.{holds_first}
use Rattle.sorted_tables.proofs.TableLemmas.Links.{climb_on}
use Rattle.frozen_routes.proofs.search.follow_parents.Goals as goal

pub returns-then-holds_at : goal.returns-then-holds_at
returns-then-holds_at g c = record {
  within = c.loop-at.invariant.within;
  holds = λ some. c.holds_at.ensures.0 c.if-holds_at.true;
  none = c.loop-at.invariant.none;
}

pub loop-at-preserved : goal.loop-at-preserved
loop-at-preserved g c =
    let w = g.A.Address.BITS in
    let rows = c.args.rows.now in
    let fs = base_numbers g.A.Address.number rows in
    let bs = bit_counts rows in
    let at = c.loop-at.at in
    let all = length-map rows (λ r. g.A.Address.number r.0.base) in
    let some : 0 < at = omega (arith, c.loop-at-test.true) in
    let link = c.requires.links (at - 1) (omega (arith, c.requires.linked, c.loop-at.invariant.within, some)) in
    record {
      within = omega (arith, link.within, c.loop-at.invariant.within);
      none = climb_on (IsHolderAt w fs bs c.args.number) (IsHolderAt w fs bs (get_or fs (at - 1) 0)) c.args.from at _ some
          (λ k l. holds_first w fs bs c.args.number (at - 1) k c.requires.rising l (omega (arith, all, some, c.loop-at.invariant.within, c.requires.within))
          (c.requires.before (at - 1) (omega (arith, some, c.loop-at.invariant.within))))
          (λ p. let no = c.holds_at.ensures.1 p in let same = c.if-holds_at.false in cc (no, same))
          c.loop-at.invariant.none link;
    }

pub returns : goal.returns
returns g c =
    let around = c.requires.around in
    record {
      within = omega (arith, around.within, c.requires.floor);
      holds = around.holds;
      none = λ k l m. elim (cases_lt k c.args.floor.count) [
        | inl lt ↦ around.none k l lt
        | inr ge ↦ c.loop-at.invariant.none k (omega (arith, ge, c.loop-at-test.false)) m
      ];
    }
