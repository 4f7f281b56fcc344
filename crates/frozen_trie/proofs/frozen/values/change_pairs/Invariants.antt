use Rattle.std.proofs.Common.{◌≡◌, length}
use Rattle.radix_trie.specs.Values.{LeavesAtPair}
use Rattle.frozen_trie.proofs.FrozenLemmas.Changed.{AreChangedTo}
use Rattle.frozen_trie.proofs.frozen.values.change_pairs.Given as goal

abbrev pub invariant-loop-i : goal.invariant-loop-i
invariant-loop-i g l = record {
  changed : AreChangedTo (LeavesAtPair g.F.Fn l.f) l.i l.fn.pairs l.pairs;
  count : length l.pairs ≡ l.i-end;
}
