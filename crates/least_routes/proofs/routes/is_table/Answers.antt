-- Where each route precedes the next, each precedes all later ones.
use Rattle.std.proofs.Common.{arith, rules}
use Rattle.least_routes.proofs.Tables.{pairs_from_steps}
use Rattle.least_routes.proofs.routes.is_table.Goals as goal

pub returns : goal.returns
returns c = (
  (λ _. (
    (λ k d lt. c.loop-i.invariant.networks k d (omega arith)),
    pairs_from_steps c.args.routes.now (λ k d lt. c.loop-i.invariant.order k d (omega arith)),
  )),
  (λ _. search rules),
)
