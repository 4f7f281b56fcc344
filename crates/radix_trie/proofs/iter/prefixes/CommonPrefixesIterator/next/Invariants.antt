use Rattle.std.proofs.Common.{◌≡◌}
use Rattle.radix_trie.specs.Walks.{LeadsTo, pairs_on_way, turns_on_way}
use Rattle.radix_trie.proofs.iter.prefixes.CommonPrefixesIterator.next.Given as goal

abbrev pub invariant-loop-node : goal.invariant-loop-node
invariant-loop-node g l = record {
  same : pairs_on_way l.self-inside.list l.self-inside.at ≡ l.fn.self;
  on_way : LeadsTo l.self-inside.list l.self-inside.at;
}

abbrev pub decreases-loop-node : goal.decreases-loop-node
decreases-loop-node g l = turns_on_way l.self-inside.list l.self-inside.at
