-- The routes so far have the numbers of their hops.
use Rattle.std.proofs.Common.{length}
use Rattle.route_tool.specs.Numbers.{ArePlaces}
use Rattle.route_tool.proofs.NumberLemmas.{AreBegun}
use Rattle.route_tool.proofs.aggregate.numbered.Given as goal

abbrev pub invariant-loop-rest : goal.invariant-loop-rest
invariant-loop-rest g l = record {
  places : ArePlaces l.numbers l.hops.items;
  begun : AreBegun g.A.Address.number l.numbers l.fn.rest l.rest l.routes.items;
}

abbrev pub decreases-loop-rest : goal.decreases-loop-rest
decreases-loop-rest g l = length l.rest
