use Rattle.std.proofs.Common.{◌≡◌, map, take}
use Rattle.std.specs.List.{flat_map}
use Rattle.address_ranges.specs.Rows.{row_by_number, range_rows}
use Rattle.address_ranges.proofs.rows.rows_of_ranges.Given as goal

abbrev pub invariant-loop-range : goal.invariant-loop-range
invariant-loop-range g l =
    map (row_by_number g.A.Address.number) l.rows.items
    ≡ flat_map (range_rows g.A.Address.number g.A.Address.BITS) (take l.range-index l.ranges)
