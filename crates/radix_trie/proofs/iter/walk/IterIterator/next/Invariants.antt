use Rattle.std.proofs.Common.{◌≡◌, [], ◌∷◌, ◌++◌, suc, vec_capacity}
use Rattle.radix_trie.specs.Walks.{HasRowRoom, left_rows, stacked}
use Rattle.radix_trie.proofs.WalkLemmas.Walks.{turns_left}
use Rattle.radix_trie.proofs.iter.walk.IterIterator.next.Given as goal

abbrev pub invariant-loop-pair : goal.invariant-loop-pair
invariant-loop-pair g l = record {
  same : stacked (l.self-inside.stack.items ++ l.self-inside.at ∷ []) ≡ l.fn.self;
  room : HasRowRoom (suc (vec_capacity l.self-inside.stack)) 0 (left_rows (l.self-inside.stack.items ++ l.self-inside.at ∷ []));
}

abbrev pub decreases-loop-pair : goal.decreases-loop-pair
decreases-loop-pair g l = turns_left (left_rows (l.self-inside.stack.items ++ l.self-inside.at ∷ []))
