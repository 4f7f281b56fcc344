use Rattle.std.proofs.Common.{◌≡◌, ◌-◌, ◌≤◌, ◌++◌, length, map}
use Rattle.radix_trie.specs.Views.{pairs_below}
use Rattle.prefix_maps.specs.Calls.{lent_pair}
use Rattle.prefix_maps.proofs.callers.first_below.Given as goal

abbrev pub invariant-loop-walk : goal.invariant-loop-walk
invariant-loop-walk g l = record {
  few : length l.list.items ≤ l.most;
  same : map (lent_pair g.M.PrefixMap.stored_key) l.list.items ++ g.M.PrefixMap.left l.walk ≡ pairs_below (g.M.PrefixMap.map l.fn.map) (g.M.PrefixMap.list l.key);
}

abbrev pub decreases-loop-walk : goal.decreases-loop-walk
decreases-loop-walk g l = l.most - length l.list.items
