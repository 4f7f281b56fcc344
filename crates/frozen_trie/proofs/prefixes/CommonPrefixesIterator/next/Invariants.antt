use Rattle.std.proofs.Common.{◌≡◌, ◌≤◌, drop}
use Rattle.std.specs.FinMap as fin
use Rattle.frozen_trie.specs.Frozen.{prefixes_up}
use Rattle.frozen_trie.proofs.prefixes.CommonPrefixesIterator.next.Given as goal

abbrev pub invariant-loop-up : goal.invariant-loop-up
invariant-loop-up g l = record {
  rest : drop l._up (prefixes_up g.K.TrieKey.encoding l.self-inside.frozen.now l.self-inside.last) ≡ prefixes_up g.K.TrieKey.encoding l.self-inside.frozen.now l.at;
  within : l.at ≤ fin.len l.self-inside.frozen.now;
}
