use Rattle.std.proofs.Common.{◌≡◌}
use Rattle.radix_trie.specs.Building.{with_pairs}
use Rattle.radix_trie.specs.Keys.{IsKeyed}
use Rattle.radix_trie.proofs.trie.Trie.extend.Given as goal

abbrev pub invariant-loop-key : goal.invariant-loop-key
invariant-loop-key g l = record {
  can : (goal.iterator-loop-key g).can_next l.key-iterator;
  ends : (goal.iterator-loop-key g).is_finite l.key-iterator;
  built : l.self ≡ with_pairs g.K.TrieKey.encoding l.fn.self l.yielded;
  keyed : IsKeyed g.K.TrieKey.encoding g.K.TrieKey.is_value l.fn.self → IsKeyed g.K.TrieKey.encoding g.K.TrieKey.is_value l.self;
}
