use Rattle.std.proofs.Common.{◌≡◌, ◌+◌, ◌≤◌, ◌++◌, length}
use Rattle.std.specs.Vec.{vec_len, vec_capacity}
use Rattle.std.specs.Vec.Iter.{into_iter_items, into_iter_len}
use Rattle.frozen_trie.proofs.TextLemmas.Growth.{values_of}
use Rattle.frozen_trie.proofs.texts.FrozenTexts.from_sorted.Given as goal

abbrev pub invariant-loop-value : goal.invariant-loop-value
invariant-loop-value g l = record {
  moved : l.values.items ++ values_of (into_iter_items l.value-iterator) ≡ values_of l.fn.pairs.items;
  many : into_iter_len l.value-iterator ≡ length (into_iter_items l.value-iterator);
  room : vec_len l.values + length (into_iter_items l.value-iterator) ≤ vec_capacity l.values;
}
