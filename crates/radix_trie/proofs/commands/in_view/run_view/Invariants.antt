use Rattle.std.proofs.Common.{◌≡◌, ◌+◌, ◌≤◌, ◌++◌, length, vec_len, vec_capacity}
use Rattle.std.specs.Vec.Iter.{into_iter_items, into_iter_len}
use Rattle.radix_trie.specs.Commands.{ViewSteps}
use Rattle.radix_trie.specs.WriteViews.{map_behind, path_of, SameView}
use Rattle.radix_trie.proofs.commands.in_view.run_view.Given as goal

abbrev pub invariant-loop-command : goal.invariant-loop-command
invariant-loop-command g l = record {
  listed : l.yielded ++ into_iter_items l.command-iterator ≡ l.fn.list.items;
  counted : into_iter_len l.command-iterator ≡ length (into_iter_items l.command-iterator);
  room : vec_len l.replies + into_iter_len l.command-iterator ≤ vec_capacity l.replies;
  same : SameView l.fn.view l.view;
  steps : ViewSteps g.K.TrieKey.encoding g.K.TrieKey.is_inline (path_of l.fn.view) (map_behind l.fn.view) l.yielded l.replies.items (map_behind l.view);
}
