use Rattle.std.proofs.Common.{◌≡◌, ℕ, List, All, ◌++◌, length}
use Rattle.std.specs.FinMap as map
use Rattle.nibble_map.specs.Maps.{below}
use Rattle.radix_trie.specs.Retains.{ReturnsAtPair, Sifts, TakesPairAt}
use Rattle.radix_trie.specs.Views.{pairs_below}
use Rattle.radix_trie.proofs.trie.Trie.not_kept.Given as goal

abbrev pub invariant-loop-pairs : goal.invariant-loop-pairs
invariant-loop-pairs g l = record {
  callable : All (TakesPairAt g.F.Fn l.fn.keep) l.pairs;
  sifted : (more : List (List ℕ)) → Sifts (ReturnsAtPair g.F.Fn l.fn.keep) g.K.TrieKey.encoding l.pairs more
      → Sifts (ReturnsAtPair g.F.Fn l.fn.keep) g.K.TrieKey.encoding (pairs_below l.fn.self l.fn.list) (l.gone.items ++ more);
  none : map.len (below l.fn.self l.fn.list) ≡ 0 → length l.pairs ≡ 0;
}

abbrev pub decreases-loop-pairs : goal.decreases-loop-pairs
decreases-loop-pairs g l = length l.pairs
