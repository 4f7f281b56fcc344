use Rattle.std.proofs.Common.{◌≡◌, map, subst}
use Rattle.std.specs.List.{flat_map}
use Rattle.std.proofs.lemmas.List.{take_all}
use Rattle.address_ranges.specs.Rows.{row_by_number, range_rows}
use Rattle.address_ranges.proofs.RowLemmas.{are_few, are_in_turn, are_values}
use Rattle.address_ranges.proofs.rows.rows_of_ranges.Goals as goal

-- the rows are those of all ranges
all : (g : _) (c : goal.After-loop-range g) → map (row_by_number g.A.Address.number) c.loop-range.rows.items
    ≡ flat_map (range_rows g.A.Address.number g.A.Address.BITS) c.args.ranges.now
all g c =
    let rows = map (row_by_number g.A.Address.number) c.loop-range.rows.items in
    subst (λ xs. rows ≡ flat_map (range_rows g.A.Address.number g.A.Address.BITS) xs)
    (take_all c.loop-range.range-index c.args.ranges.now c.loop-range-test.false) c.loop-range.invariant

pub returns-clause-values : goal.returns-clause-values
returns-clause-values g c =
    are_values g.A.Address.number g.A.Address.BITS c.loop-range.rows.items c.args.ranges.now (all g c)

pub returns-clause-rising : goal.returns-clause-rising
returns-clause-rising g c =
    are_in_turn g.A.Address.number g.A.Address.BITS c.loop-range.rows.items c.args.ranges.now (all g c) c.in_ok-check.ensures.ok

pub returns-clause-few : goal.returns-clause-few
returns-clause-few g c =
    are_few g.A.Address.number g.A.Address.BITS c.loop-range.rows.items c.args.ranges.now (all g c)
