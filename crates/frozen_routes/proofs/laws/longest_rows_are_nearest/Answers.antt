use Rattle.frozen_routes.proofs.RouteLemmas.Nearest.{around_is_nearest, one_around}
use Rattle.frozen_routes.proofs.laws.longest_rows_are_nearest.Goals as goal

pub returns-clause-nearest : goal.returns-clause-nearest
returns-clause-nearest g c = λ w number rows net found rising base. around_is_nearest w number rows rising net base found

pub returns-clause-one : goal.returns-clause-one
returns-clause-one g c = λ w number rows net found other rising p q. one_around w number rows rising net found other p q
