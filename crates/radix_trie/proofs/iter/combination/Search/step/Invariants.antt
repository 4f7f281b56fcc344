use Rattle.std.proofs.Common.{◌≡◌, [], ◌∷◌, ◌++◌}
use Rattle.radix_trie.specs.Combinations.{AreAllPlaced, all_left, turns}
use Rattle.radix_trie.proofs.iter.combination.Search.step.Given as goal

abbrev pub invariant-loop-pair : goal.invariant-loop-pair
invariant-loop-pair g l = record {
  same : all_left l.self-inside.operation (l.self-inside.stack.items ++ l.self-inside.at ∷ []) ≡ l.fn.self;
  placed : AreAllPlaced (l.self-inside.stack.items ++ l.self-inside.at ∷ []);
}

abbrev pub decreases-loop-pair : goal.decreases-loop-pair
decreases-loop-pair g l = turns (l.self-inside.stack.items ++ l.self-inside.at ∷ [])
