use Rattle.std.proofs.Common.{◌≡◌, ◌++◌, []}
use Rattle.radix_trie.specs.Walks.{deref_pairs}
use Rattle.topic_filters.specs.Search.{all_turns, all_wanted, held_behind}
use Rattle.topic_filters.proofs.search.gather.Given as goal

abbrev pub invariant-loop-next : goal.invariant-loop-next
invariant-loop-next g l = deref_pairs l.found.items ++ all_wanted l.pending.items ≡ held_behind l.fn.at [] l.levels

abbrev pub decreases-loop-next : goal.decreases-loop-next
decreases-loop-next g l = all_turns l.pending.items
