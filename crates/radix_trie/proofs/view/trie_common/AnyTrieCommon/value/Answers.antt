use Rattle.std.proofs.Common.{ap, option_map, ◌∙◌}
use Rattle.radix_trie.proofs.view.trie_common.AnyTrieCommon.value.Goals as goal

pub returns : goal.returns
returns g c = c.value_of.ensures ∙ ap (option_map (λ p. p.1)) (c.pair.ensures _ _ c.locus.ensures)
