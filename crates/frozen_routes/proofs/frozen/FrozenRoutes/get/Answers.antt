use Rattle.std.proofs.Common.{refl}
use Rattle.frozen_routes.proofs.frozen.FrozenRoutes.get.Goals as goal

pub returns : goal.returns
returns g c = record { value = ((c.in_ok-value.field-0-0.now, c.in_ok-value.value.now), c.in_ok-value.ensures.row, refl) }
