use Rattle.std.proofs.Common.{◌≡◌, ◌++◌}
use Rattle.topic_filters.specs.Search.{level_lists}
use Rattle.topic_filters.proofs.search.encoded_levels.Given as goal

abbrev pub invariant-loop-level : goal.invariant-loop-level
invariant-loop-level l = l.lists.items ++ level_lists l.level-iterator ≡ level_lists l.topic
