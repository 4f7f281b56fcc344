use Rattle.std.proofs.Common.{◌≡◌, ◌++◌, flat_map, length}
use Rattle.nibble_map.specs.Lists.{IsPrefix}
use Rattle.route_tool.specs.Answers.{row}
use Rattle.route_tool.proofs.written.add_rest.Given as goal

abbrev pub invariant-loop-rest : goal.invariant-loop-rest
invariant-loop-rest g l = record {
  text : l.out.items ++ flat_map (row g.A.Address.text) l.rest ≡ l.fn.out.items ++ flat_map (row g.A.Address.text) l.fn.rest;
  kept : IsPrefix l.fn.out.items l.out.items;
}

abbrev pub decreases-loop-rest : goal.decreases-loop-rest
decreases-loop-rest g l = length l.rest
