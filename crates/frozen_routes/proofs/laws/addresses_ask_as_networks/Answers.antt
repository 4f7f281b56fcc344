use Rattle.frozen_routes.proofs.RouteLemmas.Above.{holders_of_address}
use Rattle.frozen_routes.proofs.RouteLemmas.Nearest.{longest_of_address}
use Rattle.frozen_routes.proofs.laws.addresses_ask_as_networks.Goals as goal

pub returns-clause-longest : goal.returns-clause-longest
returns-clause-longest g c = λ w number rows net found rising all. longest_of_address w number rows rising net found all

pub returns-clause-holders : goal.returns-clause-holders
returns-clause-holders g c = λ w number rows net rising all. holders_of_address w number rows rising net all
