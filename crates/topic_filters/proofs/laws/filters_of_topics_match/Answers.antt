use Rattle.topic_filters.proofs.FilterLemmas.{filters_apart, filters_listed}
use Rattle.topic_filters.proofs.laws.filters_of_topics_match.Goals as goal

pub returns-clause-all : goal.returns-clause-all
returns-clause-all c = filters_listed

pub returns-clause-once : goal.returns-clause-once
returns-clause-once c = filters_apart
