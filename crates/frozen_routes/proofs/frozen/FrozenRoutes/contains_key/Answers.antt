use Rattle.frozen_routes.specs.Routes.{IsOwnRow, row_of_refs}
use Rattle.frozen_routes.proofs.RouteLemmas.Single.{some_own}
use Rattle.frozen_routes.proofs.frozen.FrozenRoutes.contains_key.Goals as goal

pub returns : goal.returns
returns g c = record {
  stored = rw (c.is_some.ensures) (some_own row_of_refs c.get_key_value.result (IsOwnRow g.A.Address.number c.args.self.now c.args.network.now) c.get_key_value.ensures.row);
}
