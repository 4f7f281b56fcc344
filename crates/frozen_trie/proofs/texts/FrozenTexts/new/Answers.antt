use Rattle.frozen_trie.proofs.TextLemmas.Growth.{no_text_map, no_texts}
use Rattle.frozen_trie.proofs.texts.FrozenTexts.new.Goals as goal

pub invariant_of-result : goal.invariant_of-result
invariant_of-result g c = no_texts _ _ _ c.new.ensures c.new-2.ensures.items c.new-3.ensures.items

pub returns : goal.returns
returns g c = no_text_map _ _ c.new.ensures
