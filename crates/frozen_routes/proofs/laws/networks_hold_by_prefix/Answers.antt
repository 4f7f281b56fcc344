use Rattle.frozen_routes.proofs.RouteLemmas.Nearest.{around_by_prefix, as_many_bits, holds_by_prefix}
use Rattle.frozen_routes.proofs.RouteLemmas.Whole.{holds_all}
use Rattle.frozen_routes.proofs.laws.networks_hold_by_prefix.Goals as goal

pub returns-clause-holds : goal.returns-clause-holds
returns-clause-holds c = holds_by_prefix

pub returns-clause-around : goal.returns-clause-around
returns-clause-around c = λ w k m j n base own. around_by_prefix w k m j n base own.0 own.1

pub returns-clause-all : goal.returns-clause-all
returns-clause-all c = holds_all

pub returns-clause-count : goal.returns-clause-count
returns-clause-count c = as_many_bits
