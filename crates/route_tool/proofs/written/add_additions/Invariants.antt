use Rattle.std.proofs.Common.{◌≡◌, ◌++◌, ◌∷◌, [], flat_map, length}
use Rattle.nibble_map.specs.Lists.{IsPrefix}
use Rattle.route_tool.specs.Answers.{addition}
use Rattle.route_tool.proofs.written.add_additions.Given as goal

abbrev pub invariant-loop-rest : goal.invariant-loop-rest
invariant-loop-rest g l = record {
  text : l.out.items ++ flat_map (λ r. addition g.A.Address.text r ++ 10 ∷ []) l.rest ≡ l.fn.out.items ++ flat_map (λ r. addition g.A.Address.text r ++ 10 ∷ []) l.fn.rest;
  kept : IsPrefix l.fn.out.items l.out.items;
}

abbrev pub decreases-loop-rest : goal.decreases-loop-rest
decreases-loop-rest g l = length l.rest
