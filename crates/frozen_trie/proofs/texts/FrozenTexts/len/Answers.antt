use Rattle.std.proofs.Common.{ap, ◌∙◌}
use Rattle.std.specs.FinMap as fin
use Rattle.frozen_trie.proofs.TextLemmas.Pairs.{text_count}
use Rattle.frozen_trie.proofs.texts.FrozenTexts.len.Goals as goal

pub returns : goal.returns
returns g c = c.len.ensures ∙ c.self.inside.values.ok.0 ∙ text_count _ _ _ c.self.invariant ∙ ap fin.len c.self.view_is
