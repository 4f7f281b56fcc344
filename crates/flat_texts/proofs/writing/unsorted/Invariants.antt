use Rattle.std.proofs.Common.{◌≤◌, map as each, take}
use Rattle.nibble_map.specs.Lists.{IsRising}
use Rattle.nibble_map.specs.Nibbles.{nibbles}
use Rattle.frozen_trie.specs.Frozen.{codes_of}
use Rattle.flat_texts.specs.TextImages.{given_pair}
use Rattle.flat_texts.proofs.writing.unsorted.Given as goal

abbrev pub invariant-loop-at : goal.invariant-loop-at
invariant-loop-at l = record {
  some : 1 ≤ l.at;
  rising : IsRising (take l.at (codes_of nibbles (each given_pair l.pairs)));
}
