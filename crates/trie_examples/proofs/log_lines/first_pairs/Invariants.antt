use Rattle.std.proofs.Common.{◌≡◌, ◌-◌, ◌≤◌, ◌++◌, length}
use Rattle.radix_trie.specs.Walks.{deref_pairs}
use Rattle.trie_examples.proofs.log_lines.first_pairs.Given as goal

abbrev pub invariant-loop-left : goal.invariant-loop-left
invariant-loop-left g l = record {
  few : length l.page.items ≤ l.most;
  same : deref_pairs l.page.items ++ l.left ≡ l.fn.walk;
}

abbrev pub decreases-loop-left : goal.decreases-loop-left
decreases-loop-left g l = l.most - length l.page.items
