use Rattle.std.proofs.Common.{◌≤◌, length}
use Rattle.nibble_map.specs.Maps.{PairMap}
use Rattle.radix_trie.specs.Retains.{RemovesAll, RemovesBeforeOne, RemovesSome}
use Rattle.radix_trie.proofs.trie.Trie.remove_all.Given as goal

abbrev pub invariant-loop-list : goal.invariant-loop-list
invariant-loop-list g l = record {
  removes : (n : PairMap g.row.K.Denot g.row.V.Denot) → RemovesAll l.rest l.self n → RemovesAll l.fn.lists l.fn.self n;
  some : (n : PairMap g.row.K.Denot g.row.V.Denot) → RemovesSome l.rest l.self n → RemovesSome l.fn.lists l.fn.self n;
  stopped : (n : PairMap g.row.K.Denot g.row.V.Denot) → RemovesBeforeOne l.rest l.self n → RemovesBeforeOne l.fn.lists l.fn.self n;
  few : length l.rest ≤ length l.fn.lists;
}

abbrev pub decreases-loop-list : goal.decreases-loop-list
decreases-loop-list g l = length l.rest
