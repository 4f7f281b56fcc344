use Rattle.std.proofs.Common.{◌≡◌, ◌<◌, map, take, All}
use Rattle.std.specs.Char.{digit_value}
use Rattle.std.specs.Prelude.{string_bytes}
use Rattle.trie_examples.proofs.round_trips.written.Given as goal

abbrev pub invariant-loop-i : goal.invariant-loop-i
invariant-loop-i l = record {
  digits : All (λ c. digit_value c < 16) (string_bytes l.text);
  list : map digit_value (string_bytes l.text) ≡ take l.i l.list;
}
