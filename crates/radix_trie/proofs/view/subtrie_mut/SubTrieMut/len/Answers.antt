use Rattle.std.proofs.Common.{ap, ◌∙◌}
use Rattle.std.specs.FinMap as map
use Rattle.nibble_map.specs.Maps.{below}
use Rattle.radix_trie.proofs.view.subtrie_mut.SubTrieMut.len.Goals as goal

pub returns-clause-count : goal.returns-clause-count
returns-clause-count g c = c.len.ensures _ _ c.find.ensures ∙ ap (λ p. map.len (below c.args.self.trie.now p)) c.nibbles.ensures
