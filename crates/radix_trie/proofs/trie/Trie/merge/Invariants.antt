use Rattle.std.proofs.Common.{◌≡◌, ◌++◌, [], List, length}
use Rattle.std.specs.Vec.Iter.{into_iter_items, into_iter_len}
use Rattle.radix_trie.specs.Building.{with_pairs}
use Rattle.radix_trie.specs.Keys.{IsKeyed}
use Rattle.radix_trie.specs.Views.{pairs_below}
use Rattle.radix_trie.proofs.trie.Trie.merge.Given as goal

abbrev pub invariant-loop-key : goal.invariant-loop-key
invariant-loop-key g l = record {
  counted : into_iter_len l.rest ≡ length (into_iter_items l.rest);
  stored : (done : List (g.row.K.Denot × g.row.V.Denot)) × (pairs_below l.fn.other [] ≡ done ++ into_iter_items l.rest)
      × (l.self ≡ with_pairs g.K.TrieKey.encoding l.fn.self done);
  keyed : IsKeyed g.K.TrieKey.encoding g.K.TrieKey.is_value l.fn.self → IsKeyed g.K.TrieKey.encoding g.K.TrieKey.is_value l.self;
}

abbrev pub decreases-loop-key : goal.decreases-loop-key
decreases-loop-key g l = into_iter_len l.rest
