use Rattle.std.proofs.Common.{◌∙◌, ap}
use Rattle.std.proofs.lemmas.Result.{IfOk-weaker}
use Rattle.std.specs.FinMap as map
use Rattle.trie_set.specs.Sets.{keys_in}
use Rattle.trie_set.proofs.SetLemmas.{keys_of_walk, len-whole}
use Rattle.trie_set.proofs.set.TrieSet.iter.Goals as goal

pub returns-clause-walk : goal.returns-clause-walk
returns-clause-walk g c = IfOk-weaker c.keys.result _ _ (λ _ same. same ∙ keys_of_walk c.self.inside.trie ∙ ap keys_in c.self.view_is) c.keys.ensures.walk

pub returns-clause-none : goal.returns-clause-none
returns-clause-none g c = λ bare. c.keys.ensures.none (len-whole c.self.inside.trie ∙ ap map.len c.self.view_is ∙ bare)
