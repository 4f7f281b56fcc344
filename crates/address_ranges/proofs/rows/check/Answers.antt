use Rattle.std.proofs.Common.{◌<◌, ◌-◌, ap, subst, arith}
use Rattle.std.proofs.lemmas.List.{get_or_read}
use Rattle.address_ranges.proofs.RowLemmas.{in_turn_more}
use Rattle.address_ranges.proofs.rows.check.Goals.{else-i-gt0-via-then-i-gt0+else-first-to_number, else-i-gt0-via-else-i-gt0}
use Rattle.address_ranges.proofs.rows.check.Goals as goal

pub loop-i-preserved : goal.loop-i-preserved
loop-i-preserved g c =
    let number = g.A.Address.number in
    let ranges = c.args.ranges.now in
    let i = c.loop-i.i in
    let range = c.index-ranges-i.result in
    in_turn_more number ranges i range c.loop-i-test.true c.index-ranges-i.is c.loop-i.invariant
    (omega (arith, c.if-to_number-first.false, c.to_number-first.ensures.value, c.to_number.ensures.value))
    (λ some d. elim c.else-i-gt0.branch [
      | else-i-gt0-via-then-i-gt0+else-first-to_number t ↦
          let is = get_or_read ranges (i - 1) t.index-ranges-i-then-i-gt0.result (omega (arith, c.loop-i-test.true)) t.index-ranges-i-then-i-gt0.is d in
          subst (λ (x : g.row.A.Denot × g.row.A.Denot × g.row.V.Denot). number x.1 < number range.0) is
          (omega (
            arith,
            t.if-first-to_number.false,
            c.to_number-first.ensures.value,
            t.to_number-then-i-gt0.ensures.value,
            ap (λ (x : g.row.A.Denot × g.row.A.Denot × g.row.V.Denot). number x.1) t.index-ranges-i-then-i-gt0.is,
          ))
      | else-i-gt0-via-else-i-gt0 t ↦ absurd (omega (arith, t.if-i-gt0.false, some))
    ])
