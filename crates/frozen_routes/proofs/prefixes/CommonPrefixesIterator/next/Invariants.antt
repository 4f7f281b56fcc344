use Rattle.std.proofs.Common.{◌≡◌, ◌≤◌, drop, length}
use Rattle.frozen_routes.specs.Routes.{rows_up}
use Rattle.frozen_routes.proofs.prefixes.CommonPrefixesIterator.next.Given as goal

abbrev pub invariant-loop-up : goal.invariant-loop-up
invariant-loop-up g l = record {
  rest : drop l._up (rows_up g.A.Address.BITS g.A.Address.number l.self-inside.routes.now l.self-inside.last) ≡ rows_up g.A.Address.BITS g.A.Address.number l.self-inside.routes.now l.at;
  within : l.at ≤ length l.self-inside.routes.now;
}
