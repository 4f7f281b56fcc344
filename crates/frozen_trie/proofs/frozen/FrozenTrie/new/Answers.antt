use Rattle.frozen_trie.proofs.FrozenLemmas.Whole.{no_pair_map}
use Rattle.frozen_trie.proofs.frozen.FrozenTrie.new.Goals as goal

pub returns : goal.returns
returns g c = no_pair_map g.K.TrieKey.encoding _ c.new-2.ensures.items
