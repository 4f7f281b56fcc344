use Rattle.std.proofs.Common.{◌≡◌, ℕ, List}
use Rattle.radix_trie.specs.Lists.{IsPrefix}
use Rattle.radix_trie.specs.Maps.{value_at}
use Rattle.radix_trie.specs.Nibbles.{nibbles}
use Rattle.trie_examples.proofs.moves.move_below.Given as goal

abbrev pub invariant-loop-key : goal.invariant-loop-key
invariant-loop-key g l =
    (goal.iterator-loop-key g).can_next l.key-iterator ×
    (goal.iterator-loop-key g).is_finite l.key-iterator ×
    ((q : List ℕ) → (IsPrefix (nibbles l.fn.from) q → ⊥) → (IsPrefix (nibbles l.fn.to) q → ⊥)
    → value_at l.all q ≡ value_at l.initial.all q)
