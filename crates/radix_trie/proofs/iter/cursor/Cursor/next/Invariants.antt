use Rattle.std.proofs.Common.{◌≡◌, [], ◌∷◌, ◌++◌}
use Rattle.radix_trie.specs.Walks.{HasFullRows, left_rows, stacked}
use Rattle.radix_trie.proofs.WalkLemmas.Walks.{turns_left}
use Rattle.radix_trie.proofs.iter.cursor.Cursor.next.Given as goal

abbrev pub invariant-loop-pair : goal.invariant-loop-pair
invariant-loop-pair g l = record {
  same : stacked (l.self-inside.stack.items ++ l.self-inside.at ∷ []) ≡ l.fn.self;
  full : HasFullRows (left_rows (l.self-inside.stack.items ++ l.self-inside.at ∷ []));
}

abbrev pub decreases-loop-pair : goal.decreases-loop-pair
decreases-loop-pair g l = turns_left (left_rows (l.self-inside.stack.items ++ l.self-inside.at ∷ []))
