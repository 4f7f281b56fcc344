use Rattle.std.proofs.Common.{List, ◌++◌, [], length}
use Rattle.nibble_map.specs.Copies.{IsPairClone}
use Rattle.masked_tree.specs.Same.{AreEntryCopies}
use Rattle.radix_trie.specs.Views.{pairs_below}
use Rattle.frozen_trie.specs.Frozen.{coded_pairs}
use Rattle.frozen_trie.proofs.copies.cloned_pairs.Given as goal

abbrev pub invariant-loop-walk : goal.invariant-loop-walk
invariant-loop-walk g l =
    (more : List (_ × (_ × _))) → AreEntryCopies (IsPairClone g.K.Clone.is_clone g.V.Clone.is_clone) (coded_pairs g.K.TrieKey.encoding l.walk) more
    → AreEntryCopies (IsPairClone g.K.Clone.is_clone g.V.Clone.is_clone) (coded_pairs g.K.TrieKey.encoding (pairs_below l.trie []))
    (coded_pairs g.K.TrieKey.encoding l.pairs.items ++ more)

abbrev pub decreases-loop-walk : goal.decreases-loop-walk
decreases-loop-walk g l = length l.walk
