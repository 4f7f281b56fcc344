use Rattle.std.proofs.Common.{◌-◌, ◌<◌, inl, inr, arith, subst, sym}
use Rattle.std.proofs.lemmas.Bool.{cases_lt}
use Rattle.sorted_tables.specs.Tables.{IsLastOf}
use Rattle.sorted_tables.proofs.TableLemmas.Links.{climb_on}
use Rattle.sorted_columns.proofs.search.follow_parents.Goals as goal

pub returns-then-holds-clause-last : goal.returns-then-holds-clause-last
returns-then-holds-clause-last g c = λ sorted behind floor. record {
  within = c.loop-at.invariant.within;
  holds = λ some. (c.holds.ensures sorted).0 c.if-holds.true;
  none = c.loop-at.invariant.none sorted behind;
}

pub returns-then-link-at-clause-last : goal.returns-then-link-at-clause-last
returns-then-link-at-clause-last g c = λ sorted behind floor.
    let own = (g.met.C.Links.linked c.args.columns.now (c.loop-at.at - 1) sorted (omega (arith, c.loop-at-test.true, c.loop-at.invariant.within, c.requires.within))).within in
    absurd (omega (arith, own, c.link_at-link.ensures, c.if-link-at.true, c.loop-at-test.true))

pub loop-at-preserved : goal.loop-at-preserved
loop-at-preserved g c =
    let it = c.args.columns.now in
    let q = c.args.query.now in
    let at = c.loop-at.at in
    let some : 0 < at = omega (arith, c.loop-at-test.true) in
    record {
      within = omega (arith, c.if-link-at.false, c.loop-at.invariant.within);
      none = λ sorted behind.
          let inside : at - 1 < c.args.from = omega (arith, some, c.loop-at.invariant.within) in
          let stored : at - 1 < g.C.Columns.count it = omega (arith, inside, c.requires.within) in
          let link = subst (IsLastOf (λ k. g.C.Links.is_around it k (at - 1)) (at - 1)) (sym c.link_at-link.ensures) (g.met.C.Links.linked it (at - 1) sorted stored) in
          climb_on (g.C.Links.is_sought it q) (λ k. g.C.Links.is_around it k (at - 1)) c.args.from at _ some
          (λ k l. g.met.C.Links.nested it q (at - 1) k sorted l stored (behind (at - 1) inside))
          (λ p. let no = (c.holds.ensures sorted).1 p in let same = c.if-holds.false in cc (no, same))
          (c.loop-at.invariant.none sorted behind) link;
    }

pub returns-clause-last : goal.returns-clause-last
returns-clause-last g c = λ sorted behind floor. record {
  within = omega (arith, floor.within, c.requires.below);
  holds = floor.holds;
  none = λ k l m. elim (cases_lt k c.args.below) [
    | inl lt ↦ floor.none k l lt
    | inr ge ↦ c.loop-at.invariant.none sorted behind k (omega (arith, ge, c.loop-at-test.false)) m
  ];
}
