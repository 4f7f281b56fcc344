use Rattle.std.proofs.Common.{◌≡◌, ◌+◌, ◌≤◌, ◌++◌, length, vec_len, vec_capacity}
use Rattle.std.specs.Vec.Iter.{into_iter_items, into_iter_len}
use Rattle.radix_trie.specs.Commands.{Steps}
use Rattle.radix_trie.proofs.commands.run.Given as goal

abbrev pub invariant-loop-command : goal.invariant-loop-command
invariant-loop-command g l = record {
  listed : l.yielded ++ into_iter_items l.command-iterator ≡ l.fn.commands.items;
  counted : into_iter_len l.command-iterator ≡ length (into_iter_items l.command-iterator);
  room : vec_len l.replies + into_iter_len l.command-iterator ≤ vec_capacity l.replies;
  steps : Steps g.K.TrieKey.encoding g.K.TrieKey.is_inline l.fn.trie l.yielded l.replies.items l.trie;
}
