use Rattle.std.proofs.Common.{◌≡◌, ◌≤◌, drop}
use Rattle.std.specs.FinMap as fin
use Rattle.nibble_map.specs.Nibbles.{nibbles}
use Rattle.frozen_trie.specs.Frozen.{prefixes_up}
use Rattle.frozen_trie.proofs.texts.prefixes.TextPrefixesIterator.next.Given as goal

abbrev pub invariant-loop-up : goal.invariant-loop-up
invariant-loop-up g l = record {
  rest : drop l._up (prefixes_up nibbles l.self-inside.texts.now l.self-inside.last) ≡ prefixes_up nibbles l.self-inside.texts.now l.at;
  within : l.at ≤ fin.len l.self-inside.texts.now;
}
