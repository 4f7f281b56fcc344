use Rattle.std.proofs.Common.{◌≡◌, ◌++◌, flat_map, length, map as each}
use Rattle.nibble_map.specs.Lists.{IsPrefix}
use Rattle.trie_tool.specs.Numbers.{text}
use Rattle.trie_tool.specs.Request.{row, below_answer}
use Rattle.trie_tool.proofs.answers.add_rows.Given as goal

abbrev pub invariant-loop-walk : goal.invariant-loop-walk
invariant-loop-walk l = record {
  text : l.out.items ++ flat_map row (each text l.walk) ≡ l.fn.out.items ++ below_answer (each text l.fn.rows.walk);
  kept : IsPrefix l.fn.out.items l.out.items;
}

abbrev pub decreases-loop-walk : goal.decreases-loop-walk
decreases-loop-walk l = length l.walk
