use Rattle.std.proofs.Common.{◌≡◌, ◌++◌, map as each}
use Rattle.trie_tool.specs.Numbers.{text}
use Rattle.trie_tool.specs.Request.{member_tokens}
use Rattle.trie_tool.proofs.object.write_members.Given as goal

abbrev pub invariant-loop-key : goal.invariant-loop-key
invariant-loop-key l = record {
  members : l.writer.tokens ++ member_tokens (each text l.key-iterator) ≡ l.fn.writer.tokens ++ member_tokens (each text l.fn.walk);
  before : l.writer.before ≡ l.fn.writer.before;
}
