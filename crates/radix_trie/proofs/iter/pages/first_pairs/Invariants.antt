use Rattle.std.proofs.Common.{◌≡◌, ◌-◌, ◌≤◌, ◌++◌, length}
use Rattle.radix_trie.specs.Walks.{deref_pairs}
use Rattle.radix_trie.proofs.iter.pages.first_pairs.Given as goal

abbrev pub invariant-loop-left : goal.invariant-loop-left
invariant-loop-left g l = record {
  few : length l.list.items ≤ l.most;
  same : deref_pairs l.list.items ++ l.left ≡ l.fn.cursor;
}

abbrev pub decreases-loop-left : goal.decreases-loop-left
decreases-loop-left g l = l.most - length l.list.items
