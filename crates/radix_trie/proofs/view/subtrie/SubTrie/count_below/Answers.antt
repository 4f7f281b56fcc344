use Rattle.std.proofs.Common.{ap, ◌∙◌}
use Rattle.std.specs.FinMap as map
use Rattle.nibble_map.specs.Maps.{below}
use Rattle.radix_trie.proofs.view.subtrie.SubTrie.count_below.Goals as goal

pub returns-clause-count : goal.returns-clause-count
returns-clause-count g c = rw (← c.self.view_is) (c.len.ensures _ _ c.find.ensures ∙ ap (λ l. map.len (below c.self.inside.trie.now l)) c.in_ok-list.ensures.list)
