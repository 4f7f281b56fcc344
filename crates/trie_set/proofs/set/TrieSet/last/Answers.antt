use Rattle.std.proofs.Common.{◌∙◌, ◌-◌, length, slice_get, ap}
use Rattle.trie_set.specs.Sets.{keys_in}
use Rattle.trie_set.proofs.SetLemmas.{last_by_walk}
use Rattle.trie_set.proofs.set.TrieSet.last.Goals as goal

pub returns : goal.returns
returns g c = c.key_behind.ensures ∙ last_by_walk c.self.inside.trie _ c.last_key_value.ensures
    ∙ ap (λ m. slice_get (keys_in m) (length (keys_in m) - 1)) c.self.view_is
