use Rattle.std.proofs.Common.{◌≡◌, ◌++◌, map}
use Rattle.address_ranges.specs.Rows.{row_by_number, range_rows}
use Rattle.address_ranges.proofs.rows.push_rows.Given as goal

abbrev pub invariant-loop-network : goal.invariant-loop-network
invariant-loop-network g l =
    map (row_by_number g.A.Address.number) l.rows.items ++ map (λ net. (net, l.range.2)) l.network-iterator
    ≡ map (row_by_number g.A.Address.number) l.initial.rows.items ++ range_rows g.A.Address.number g.A.Address.BITS l.range
