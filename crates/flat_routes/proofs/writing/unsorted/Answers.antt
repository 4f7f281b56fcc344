use Rattle.std.proofs.Common.{map as each, subst, arith}
use Rattle.std.proofs.lemmas.List.{length-map, take_all}
use Rattle.frozen_routes.specs.Routes.{AreRowsInOrder}
use Rattle.flat_routes.specs.Images.{width}
use Rattle.flat_routes.proofs.WriteLemmas.{front_rises, next_rises}
use Rattle.flat_routes.proofs.writing.unsorted.Goals as goal

pub returns-then-not-is_in_place : goal.returns-then-not-is_in_place
returns-then-not-is_in_place g c =
    let w = width g.R.FlatRow.WIDE in
    let rows = each g.R.FlatRow.shown c.args.rows.now in
    let at = c.loop-at.at in
    let many = length-map c.args.rows.now g.R.FlatRow.shown in
    record {
      within = omega (arith, many, c.loop-at-test.true);
      before = front_rises w rows at (omega (arith, many, c.loop-at-test.true)) c.loop-at.invariant;
      unsorted = λ rising.
          let yes = c.is_in_place.ensures.1 (next_rises w rows at (omega (arith, many, c.loop-at-test.true)) rising) in
          let no = c.if-not-is_in_place.true in
          cc (yes, no);
    }

pub returns : goal.returns
returns g c =
    let w = width g.R.FlatRow.WIDE in
    let rows = each g.R.FlatRow.shown c.args.rows.now in
    let at = c.loop-at.at in
    let many = length-map c.args.rows.now g.R.FlatRow.shown in
    subst (AreRowsInOrder w (λ n. n)) (take_all at rows (omega (arith, many, c.loop-at-test.false)))
    (front_rises w rows at (omega (arith, many, c.loop-at.auto.at-end)) c.loop-at.invariant)
