use Rattle.std.proofs.Common.{◌∙◌, slice_get, ap}
use Rattle.trie_set.specs.Sets.{keys_in}
use Rattle.trie_set.proofs.SetLemmas.{key_by_walk}
use Rattle.trie_set.proofs.set.TrieSet.first.Goals as goal

pub returns : goal.returns
returns g c = c.key_behind.ensures ∙ key_by_walk c.self.inside.trie 0 _ c.first_key_value.ensures
    ∙ ap (λ m. slice_get (keys_in m) 0) c.self.view_is
