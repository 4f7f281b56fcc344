use Rattle.std.proofs.Common.{◌≡◌, ◌+◌, ◌≤◌, length}
use Rattle.frozen_trie.specs.Frozen.{prefixes_up}
use Rattle.frozen_trie.proofs.prefixes.CommonPrefixes.new.Given as goal

abbrev pub invariant-loop-at : goal.invariant-loop-at
invariant-loop-at g l = record {
  within : l.left + l.at ≤ l.last;
  counted : l.left + length (prefixes_up g.K.TrieKey.encoding l.frozen l.at) ≡ length (prefixes_up g.K.TrieKey.encoding l.frozen l.last);
}

abbrev pub decreases-loop-at : goal.decreases-loop-at
decreases-loop-at g l = l.at
