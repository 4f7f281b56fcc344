use Rattle.std.proofs.Common.{◌≡◌, ◌+◌, ◌≤◌, length}
use Rattle.frozen_routes.specs.Routes.{rows_up}
use Rattle.frozen_routes.proofs.prefixes.CommonPrefixes.new.Given as goal

abbrev pub invariant-loop-at : goal.invariant-loop-at
invariant-loop-at g l = record {
  within : l.left + l.at ≤ l.last;
  counted : l.left + length (rows_up g.A.Address.BITS g.A.Address.number l.routes l.at) ≡ length (rows_up g.A.Address.BITS g.A.Address.number l.routes l.last);
}

abbrev pub decreases-loop-at : goal.decreases-loop-at
decreases-loop-at g l = l.at
