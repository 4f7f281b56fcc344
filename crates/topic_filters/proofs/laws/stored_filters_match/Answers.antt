use Rattle.topic_filters.proofs.StoredLemmas.{stored_match, stored_match-own, stored_once}
use Rattle.topic_filters.proofs.laws.stored_filters_match.Goals as goal

pub returns-clause-held : goal.returns-clause-held
returns-clause-held g c = stored_match

pub returns-clause-own : goal.returns-clause-own
returns-clause-own g c m keyed topic p levels = stored_match-own m keyed topic levels p

pub returns-clause-once : goal.returns-clause-once
returns-clause-once g c m keyed topic levels = stored_once m keyed topic levels
