use Rattle.std.proofs.Common.{◌≡◌, ◌+◌, ◌≤◌, ◌++◌, length, map, vec_len, vec_capacity}
use Rattle.std.specs.Vec.Iter.{into_iter_items, into_iter_len}
use Rattle.radix_trie.proofs.commands.move_values.Given as goal

abbrev pub invariant-loop-value : goal.invariant-loop-value
invariant-loop-value g l = record {
  listed : l.yielded ++ into_iter_items l.value-iterator ≡ l.fn.pairs.items;
  counted : into_iter_len l.value-iterator ≡ length (into_iter_items l.value-iterator);
  room : vec_len l.values + into_iter_len l.value-iterator ≤ vec_capacity l.values;
  moved : l.values.items ≡ l.fn.values.items ++ map (λ x. x.1) l.yielded;
}
