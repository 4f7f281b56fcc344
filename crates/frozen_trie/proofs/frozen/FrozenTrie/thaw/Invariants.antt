use Rattle.std.proofs.Common.{vec_len}
use Rattle.frozen_trie.proofs.FrozenLemmas.Thawed.{IsThawed}
use Rattle.frozen_trie.proofs.frozen.FrozenTrie.thaw.Given as goal

abbrev pub invariant-loop-key : goal.invariant-loop-key
invariant-loop-key g l = IsThawed g.K.TrieKey.encoding l.initial.rest.items l.rest.items l.trie

abbrev pub decreases-loop-key : goal.decreases-loop-key
decreases-loop-key g l = vec_len l.rest
