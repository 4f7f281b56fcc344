use Rattle.std.proofs.Common.{◌≡◌, [], ◌∷◌, ◌++◌, reverse}
use Rattle.radix_trie.specs.Walks.{HasFullRows, left_in, left_rows}
use Rattle.radix_trie.proofs.WalkLemmas.Walks.{turns_left}
use Rattle.radix_trie.proofs.iter.back.CursorBack.next.Given as goal

abbrev pub invariant-loop-node : goal.invariant-loop-node
invariant-loop-node g l = record {
  same : reverse (left_in (l.self-inside.stack.items ++ l.self-inside.at ∷ [])) ≡ l.fn.self;
  full : HasFullRows (left_rows (l.self-inside.stack.items ++ l.self-inside.at ∷ []));
}

abbrev pub decreases-loop-node : goal.decreases-loop-node
decreases-loop-node g l = turns_left (left_rows (l.self-inside.stack.items ++ l.self-inside.at ∷ []))
