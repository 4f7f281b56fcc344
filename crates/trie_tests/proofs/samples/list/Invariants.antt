use Rattle.std.proofs.Common.{◌≡◌, take}
use Rattle.trie_tests.proofs.samples.list.Given as goal

abbrev pub invariant-loop-nibble : goal.invariant-loop-nibble
invariant-loop-nibble l = l.list ≡ take l.nibble-index l.nibbles
