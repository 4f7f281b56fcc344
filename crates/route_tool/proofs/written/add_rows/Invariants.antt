use Rattle.std.proofs.Common.{◌≡◌, ◌++◌, flat_map, map, take}
use Rattle.nibble_map.specs.Lists.{IsPrefix}
use Rattle.route_tool.specs.Aggregates.{route_of}
use Rattle.route_tool.specs.Answers.{row}
use Rattle.route_tool.proofs.written.add_rows.Given as goal

abbrev pub invariant-loop-network : goal.invariant-loop-network
invariant-loop-network g l = record {
  text : l.out.items ≡ l.fn.out.items ++ flat_map (row g.A.Address.text) (map route_of (take l.network-index l.rows));
  kept : IsPrefix l.fn.out.items l.out.items;
}
